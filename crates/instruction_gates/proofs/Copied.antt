-- The copies carry what is latched, and are added one after the other.
use Rattle.std.proofs.Common.{◌≡◌, ℕ, zero, suc, ◌+◌, ◌-◌, ◌*◌, ◌<◌, ◌≤◌, List, [], ◌∷◌, ◌++◌, length, refl, sym, ap, subst, ◌∙◌, arith}
use Rattle.signal_values.specs.declared.Sig.{Sig}
use Rattle.netlist_model.specs.declared.Feed.{Feed}
use Rattle.netlist_model.specs.Lists.{CellView, cell_count}
use Rattle.netlist_model.specs.LawsContained.{ContainedParts}
use Rattle.netlist_arena.specs.Arena.{ArenaView}
use Rattle.gate_parts.specs.Appended.{Appended}
use Rattle.gate_parts.specs.Parts.{part_cells}
use Rattle.gate_parts.specs.PartLaws.{ContainedPartMeets}
use Rattle.register_gates.specs.Steps.{AddedInTurn}
use Rattle.instruction_gates.specs.declared.copies.TheConstants.{COPY}
use Rattle.instruction_gates.specs.Copies.{row_values, copy_given, copies_cells, CopiesTell}

pub carried : ContainedParts → ContainedPartMeets → CopiesTell
carried parts meets first number latches [] N m formed has settled = refl
carried parts meets first number latches (preset ∷ rest) N m formed has settled =
    let behind : ℕ = length rest in
    let apart = (parts N (part_cells COPY (copy_given latches behind) first number) (copies_cells (suc first) (suc number) latches behind)).parts has in
    let z : first + 0 ≡ first = omega arith in
    let e : m.value (first + 0) ≡ m.value (latches + 3 * behind + 1) = (meets N COPY (copy_given latches behind) first number formed apart.0 _ m.state m.value settled 0 _ refl refl).1 in
    ap (λ (x : Sig). x ∷ row_values m.value (suc first) behind) (ap m.value (sym z) ∙ e)
    ∙ ap (λ (xs : List Sig). m.value (latches + 3 * behind + 1) ∷ xs) (carried parts meets (suc first) (suc number) latches rest N m formed apart.1 settled)

pub copies_length : (first number latches count : ℕ) → length (copies_cells first number latches count) ≡ count
copies_length first number latches zero = refl
copies_length first number latches (suc behind) = ap suc (copies_length (suc first) (suc number) latches behind)

pub none_copied : (old : ArenaView) (latches count : ℕ) → count ≡ 0 → Appended old old 0 []
    → Appended old old count (copies_cells (length old.lists.nets) (cell_count old.lists) latches count)
none_copied old latches count e added =
    let P : ℕ → Type 0 = λ n. Appended old old n (copies_cells (length old.lists.nets) (cell_count old.lists) latches n) in
    subst P (sym e) added

pub one_left : (old middle : ArenaView) (given : List Feed) (count : ℕ) → Appended old middle 1 (part_cells COPY given (length old.lists.nets) (cell_count old.lists))
    → count ≤ old.spare.cells → count - 1 ≤ middle.spare.cells
one_left old middle given count added room = let e : middle.spare.cells + 1 ≡ old.spare.cells = added.cell_room in omega arith

-- one more copy before those that follow
more_copied : AddedInTurn → (old middle new : ArenaView) (latches behind count : ℕ) → suc behind ≡ count
    → Appended old middle 1 (part_cells COPY (copy_given latches behind) (length old.lists.nets) (cell_count old.lists))
    → Appended middle new behind (copies_cells (length middle.lists.nets) (cell_count middle.lists) latches behind)
    → Appended old new count (copies_cells (length old.lists.nets) (cell_count old.lists) latches count)
more_copied in_turn old middle new latches behind count e a b =
    let front : List CellView = part_cells COPY (copy_given latches behind) (length old.lists.nets) (cell_count old.lists) in
    let nets : length old.lists.nets + 1 ≡ suc (length old.lists.nets) = omega arith in
    let cells : cell_count old.lists + 1 ≡ suc (cell_count old.lists) = omega arith in
    let whole : 1 + behind ≡ suc behind = omega arith in
    let P : ℕ → Type 0 = λ n. Appended old new (suc behind) (front ++ copies_cells n (cell_count old.lists + 1) latches behind) in
    let Q : ℕ → Type 0 = λ n. Appended old new (suc behind) (front ++ copies_cells (suc (length old.lists.nets)) n latches behind) in
    let R : ℕ → Type 0 = λ n. Appended old new n (copies_cells (length old.lists.nets) (cell_count old.lists) latches n) in
    subst R e (subst Q cells (subst P nets (in_turn old middle new 1 behind (suc behind) front (λ first number. copies_cells first number latches behind) a refl b whole)))

pub one_copied : AddedInTurn → (old middle new : ArenaView) (latches count : ℕ) → 0 < count
    → Appended old middle 1 (part_cells COPY (copy_given latches (count - 1)) (length old.lists.nets) (cell_count old.lists))
    → Appended middle new (count - 1) (copies_cells (length middle.lists.nets) (cell_count middle.lists) latches (count - 1))
    → Appended old new count (copies_cells (length old.lists.nets) (cell_count old.lists) latches count)
one_copied in_turn old middle new latches count some a b = more_copied in_turn old middle new latches (count - 1) count (omega arith) a b
