-- A row grows by the part before it.
use Rattle.std.proofs.Common.{◌≡◌, ℕ, suc, ◌+◌, ◌-◌, ◌*◌, ◌<◌, List, [], ◌∷◌, length, drop, length-append, sym, ◌∙◌, ap, subst, Some, arith}
use Rattle.std.proofs.Math.Nat.{mul-suc}
use Rattle.std.proofs.Math.Seq.{drop-cons, drop-length}
use Rattle.std.proofs.lemmas.Option.{slice_get_within, get_or_from_slice_get}
use Rattle.std.specs.List.{slice_get}
use Rattle.netlist_model.specs.declared.Feed.{Feed}
use Rattle.netlist_model.specs.Lists.{CellView, cell_count}
use Rattle.netlist_model.specs.Contained.{IsDense}
use Rattle.netlist_arena.specs.Arena.{ArenaView}
use Rattle.gate_parts.specs.Appended.{Appended}
use Rattle.gate_parts.specs.Laws.{AppendedNone}
use Rattle.register_gates.specs.Steps.{AddedInTurn}
use Rattle.instruction_gates.specs.Rows.{row_cells, placed}

-- each part has so many cells
abbrev pub Sized : ℕ → (ℕ → ℕ → ℕ → Feed → List CellView) → Type 0
Sized width part = (behind at cell : ℕ) (item : Feed) → length (part behind at cell item) ≡ width

-- the row of these was added
pub record Rowed (old new : ArenaView) (width : ℕ) (part : ℕ → ℕ → ℕ → Feed → List CellView) (items : List Feed) : Type 0 where
  pub added : Appended old new (width * length items) (row_cells (placed part width (length old.lists.nets) (cell_count old.lists)) items)
  pub dense : IsDense new.lists

pub row_length : (width : ℕ) (part : ℕ → ℕ → ℕ → Feed → List CellView) → Sized width part → (first number : ℕ) (items : List Feed)
    → length (row_cells (placed part width first number) items) ≡ width * length items
row_length width part sized first number [] = omega arith
row_length width part sized first number (item ∷ rest) =
    let xs = row_cells (placed part width first number) rest in
    let ys = part (length rest) (first + width * length rest) (number + width * length rest) item in
    length-append xs ys ∙ ap (λ (n : ℕ). n + length ys) (row_length width part sized first number rest)
    ∙ ap (λ (n : ℕ). width * length rest + n) (sized (length rest) (first + width * length rest) (number + width * length rest) item)
    ∙ sym (mul-suc width (length rest))

-- the room that is left
pub row_room : (old new : ArenaView) (width : ℕ) (part : ℕ → ℕ → ℕ → Feed → List CellView) → Sized width part → (items : List Feed) → Rowed old new width part items
    → new.spare.cells + width * length items ≡ old.spare.cells
row_room old new width part sized items rowed =
    ap (λ (n : ℕ). new.spare.cells + n) (sym (row_length width part sized (length old.lists.nets) (cell_count old.lists) items)) ∙ rowed.added.cell_room

pub row_none : AppendedNone → (old : ArenaView) (width : ℕ) (part : ℕ → ℕ → ℕ → Feed → List CellView) (items : List Feed) → IsDense old.lists
    → Rowed old old width part (drop (length items) items)
row_none none old width part items dense =
    let P : List Feed → Type 0 = λ rest. Rowed old old width part rest in
    let Q : ℕ → Type 0 = λ n. Appended old old n [] in
    let zero_of : 0 ≡ width * 0 = omega arith in
    subst P (sym (drop-length items)) (record { added = subst Q zero_of (none old dense); dense = dense })

row_more : AddedInTurn → (old middle new : ArenaView) (width : ℕ) (part : ℕ → ℕ → ℕ → Feed → List CellView) → Sized width part → (item : Feed) (rest : List Feed)
    → Rowed old middle width part rest → Appended middle new width (part (length rest) (length middle.lists.nets) (cell_count middle.lists) item) → IsDense new.lists
    → Rowed old new width part (item ∷ rest)
row_more in_turn old middle new width part sized item rest rowed step dense = record {
  added = in_turn old middle new (width * length rest) width (width * length (item ∷ rest)) (row_cells (placed part width (length old.lists.nets) (cell_count old.lists)) rest)
      (λ at cell. part (length rest) at cell item) rowed.added (row_length width part sized (length old.lists.nets) (cell_count old.lists) rest) step (sym (mul-suc width (length rest)));
  dense = dense;
}

pub row_step : AddedInTurn → (old middle new : ArenaView) (width : ℕ) (part : ℕ → ℕ → ℕ → Feed → List CellView) → Sized width part → (items : List Feed) (place behind : ℕ) (item : Feed)
    → 0 < place → slice_get items (place - 1) ≡ Some item → behind ≡ length (drop place items) → Rowed old middle width part (drop place items)
    → Appended middle new width (part behind (length middle.lists.nets) (cell_count middle.lists) item) → IsDense new.lists → Rowed old new width part (drop (place - 1) items)
row_step in_turn old middle new width part sized items place behind item low at is rowed step dense =
    let n : suc (place - 1) ≡ place = omega arith in
    let below = slice_get_within items (place - 1) item at in
    let e : drop (place - 1) items ≡ item ∷ drop (suc (place - 1)) items
    = drop-cons items (place - 1) item below ∙ ap (λ (x : Feed). x ∷ drop (suc (place - 1)) items) (get_or_from_slice_get items (place - 1) item item at) in
    let e' : drop (place - 1) items ≡ item ∷ drop place items = rw n at e in
    let P : List Feed → Type 0 = λ rest. Rowed old new width part rest in
    let Q : ℕ → Type 0 = λ k. Appended middle new width (part k (length middle.lists.nets) (cell_count middle.lists) item) in
    subst P (sym e') (row_more in_turn old middle new width part sized item (drop place items) rowed (subst Q is step) dense)
