-- The items of the live cells are made from the first number on.
use Rattle.std.proofs.Common.{◌≡◌, ℕ, zero, suc, ◌+◌, ◌≤◌, List, [], ◌∷◌, ◌++◌, ◌-◌, ◌⊎◌, inl, inr, drop, refl, sym, ◌∙◌, ap, subst, arith, Option, Some, None, add-one, append_assoc, append-nil}
use Rattle.std.proofs.Math.Seq.{drop-nil}
use Rattle.std.specs.Option.{option_map}
use Rattle.std.specs.List.{slice_get}
use Rattle.std.proofs.lemmas.List.Sums.{sum_by-cons}
use Rattle.netlist_arena.proofs.Changes.{one_if_live}
use Rattle.verilog_tree.specs.declared.tree.Item.{Item}
use Rattle.netlist_model.specs.Lists.{CellView, live_cell}
use Rattle.netlist_arena.specs.Arena.{live_count}
use Rattle.netlist_unlink.specs.Trees.{Naming, item_of, items_from}

live_count-cons : (p : Option CellView) (ps : List (Option CellView)) → live_count (p ∷ ps) ≡ one_if_live p + live_count ps
live_count-cons p ps = sum_by-cons one_if_live p ps

-- where no cell is live, there is no item
pub items_from-dead : (naming : Naming) (number : ℕ) (cells : List (Option CellView)) → live_count cells ≡ 0 → items_from naming number cells ≡ []
items_from-dead naming number [] none = refl
items_from-dead naming number (None ∷ cells) none = items_from-dead naming (number + 1) cells (omega (arith, live_count-cons None cells))
items_from-dead naming number (Some cell ∷ cells) none = absurd (omega (arith, live_count-cons (Some cell) cells))

-- where no cell is live, each number is empty
pub live_cell-dead : (cells : List (Option CellView)) (i : ℕ) → live_count cells ≡ 0 → live_cell (slice_get cells i) ≡ None
live_cell-dead [] i none = refl
live_cell-dead (None ∷ cells) zero none = refl
live_cell-dead (Some c ∷ cells) i none = absurd (omega (arith, live_count-cons (Some c) cells))
live_cell-dead (None ∷ cells) (suc i) none = live_cell-dead cells i (omega (arith, live_count-cons None cells))

-- a live cell at the front of what is left
left_live : (cells : List (Option CellView)) (i : ℕ) (cell : CellView) → live_cell (slice_get cells i) ≡ Some cell → drop i cells ≡ Some cell ∷ drop (suc i) cells
left_live [] i cell at = absurd (cc)
left_live (None ∷ cells) zero cell at = absurd (cc)
left_live (Some c ∷ cells) zero cell at = let same : c ≡ cell = grind arith in rw same refl
left_live (c ∷ cells) (suc i) cell at = left_live cells i cell at

-- the items that were made, and how many live cells were seen
pub record AreItems (naming : Naming) (cells : List (Option CellView)) (number seen : ℕ) (items : List Item) : Type 0 where
  pub so_far : items ++ items_from naming number (drop number cells) ≡ items_from naming 0 cells
  pub counted : seen + live_count (drop number cells) ≡ live_count cells

pub items_more : (naming : Naming) (cells : List (Option CellView)) (number seen after : ℕ) (items now : List Item) (item : Item) → AreItems naming cells number seen items
    → option_map (item_of naming number) (live_cell (slice_get cells number)) ≡ Some item → after ≡ seen + 1 → now ≡ items ++ item ∷ [] → AreItems naming cells (number + 1) after now
items_more naming cells number seen after items now item are at one grown = go (live_cell (slice_get cells number)) refl at
  where
    go : (o : Option CellView) → live_cell (slice_get cells number) ≡ o → option_map (item_of naming number) o ≡ Some item → AreItems naming cells (number + 1) after now
    go None e is = absurd (cc)
    go (Some cell) e is =
        let split = left_live cells number cell e in
        let made : item_of naming number cell ≡ item = grind arith in
        let rest = items_from naming (number + 1) (drop (suc number) cells) in
        let whole : items_from naming number (drop number cells) ≡ item ∷ rest = ap (items_from naming number) split ∙ ap (λ (x : Item). x ∷ rest) made in
        let head : live_count (drop number cells) ≡ 1 + live_count (drop (suc number) cells) = ap live_count split ∙ live_count-cons (Some cell) (drop (suc number) cells) in
        let counted = are.counted in
        record {
          so_far = let step : items ++ item ∷ rest ≡ items_from naming 0 cells = ap (λ (xs : List Item). items ++ xs) (sym whole) ∙ are.so_far in
              let D : ℕ → Type 0 = λ k. now ++ items_from naming (number + 1) (drop k cells) ≡ items_from naming 0 cells in
              subst D (sym (add-one number)) (ap (λ (xs : List Item). xs ++ rest) grown ∙ append_assoc items (item ∷ []) rest ∙ step);
          counted = let D : ℕ → Type 0 = λ k. after + live_count (drop k cells) ≡ live_count cells in
              subst D (sym (add-one number)) (omega arith);
        }

-- no live cell at the front of what is left, or nothing left
left_dead : (cells : List (Option CellView)) (i : ℕ) → live_cell (slice_get cells i) ≡ None
    → (drop i cells ≡ None ∷ drop (suc i) cells) ⊎ ((drop i cells ≡ []) × (drop (suc i) cells ≡ []))
left_dead [] i at = inr (drop-nil i, refl)
left_dead (None ∷ cells) zero at = inl refl
left_dead (Some c ∷ cells) zero at = absurd (cc)
left_dead (c ∷ cells) (suc i) at = left_dead cells i at

dead_items : (naming : Naming) (cells : List (Option CellView)) (number : ℕ) → live_cell (slice_get cells number) ≡ None
    → items_from naming number (drop number cells) ≡ items_from naming (number + 1) (drop (suc number) cells)
dead_items naming cells number at = elim (left_dead cells number at) [
  | inl e ↦ ap (items_from naming number) e
  | inr e ↦ ap (items_from naming number) e.0 ∙ sym (ap (items_from naming (number + 1)) e.1)
]

dead_count : (cells : List (Option CellView)) (number : ℕ) → live_cell (slice_get cells number) ≡ None → live_count (drop number cells) ≡ live_count (drop (suc number) cells)
dead_count cells number at = elim (left_dead cells number at) [
  | inl e ↦ ap live_count e ∙ live_count-cons None (drop (suc number) cells) ∙ omega arith
  | inr e ↦ ap live_count e.0 ∙ sym (ap live_count e.1)
]

-- a number without a live cell gives no item
pub items_same : (naming : Naming) (cells : List (Option CellView)) (number seen after : ℕ) (items now : List Item) → AreItems naming cells number seen items
    → live_cell (slice_get cells number) ≡ None → after ≡ seen → now ≡ items → AreItems naming cells (number + 1) after now
items_same naming cells number seen after items now are at same kept =
    let D : ℕ → Type 0 = λ k. now ++ items_from naming (number + 1) (drop k cells) ≡ items_from naming 0 cells in
    let C : ℕ → Type 0 = λ k. after + live_count (drop k cells) ≡ live_count cells in
    record {
      so_far = subst D (sym (add-one number)) (ap (λ (xs : List Item). xs ++ items_from naming (number + 1) (drop (suc number) cells)) kept ∙ ap (λ (xs : List Item). items ++ xs) (sym (dead_items naming cells number at)) ∙ are.so_far);
      counted = subst C (sym (add-one number)) (ap (λ (k : ℕ). k + live_count (drop (suc number) cells)) same ∙ ap (λ (k : ℕ). seen + k) (sym (dead_count cells number at)) ∙ are.counted);
    }

-- all live cells were seen: the items are all, and each number from here on is empty
pub items_all : (naming : Naming) (cells : List (Option CellView)) (number seen : ℕ) (items : List Item) → AreItems naming cells number seen items → seen ≡ live_count cells
    → items ≡ items_from naming 0 cells
items_all naming cells number seen items are all =
    let counted = are.counted in
    let none : live_count (drop number cells) ≡ 0 = omega arith in
    let rest = items_from-dead naming number (drop number cells) none in
    sym (append-nil items) ∙ (rw rest at are.so_far)

slice_get-drop : (cells : List (Option CellView)) (n k : ℕ) → slice_get (drop n cells) k ≡ slice_get cells (n + k)
slice_get-drop [] n k = rw (drop-nil n) refl
slice_get-drop (c ∷ cells) zero k = let same : k ≡ 0 + k = omega arith in ap (slice_get (c ∷ cells)) same
slice_get-drop (c ∷ cells) (suc n) k = let same : suc (n + k) ≡ suc n + k = omega arith in slice_get-drop cells n k ∙ ap (slice_get (c ∷ cells)) same

pub past_all : (naming : Naming) (cells : List (Option CellView)) (number seen : ℕ) (items : List Item) → AreItems naming cells number seen items → seen ≡ live_count cells
    → (i : ℕ) → number ≤ i → live_cell (slice_get cells i) ≡ None
past_all naming cells number seen items are all i past =
    let counted = are.counted in
    let none : live_count (drop number cells) ≡ 0 = omega arith in
    let place : number + (i - number) ≡ i = omega arith in
    ap (λ (k : ℕ). live_cell (slice_get cells k)) (sym place) ∙ sym (ap live_cell (slice_get-drop cells number (i - number))) ∙ live_cell-dead (drop number cells) (i - number) none
