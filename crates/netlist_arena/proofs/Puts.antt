-- One cell more or less, as look-ups see it; and how far the live cells of a dense netlist go.
use Rattle.std.proofs.Common.{◌≡◌, ◌≢◌, ℕ, suc, zero, ◌+◌, ◌<◌, List, [], ◌∷◌, length, refl, sym, ◌∙◌, arith, ap, Option, Some, None, true, false, set, inl, inr}
use Rattle.std.specs.Option.{IsSome}
use Rattle.std.specs.List.{All, slice_get}
use Rattle.std.proofs.lemmas.Bool.{cases_eq}
use Rattle.std.proofs.lemmas.List.Elements.{All-set, All-push}
use Rattle.std.proofs.lemmas.List.Sums.{sum_by-cons}
use Rattle.std.proofs.lemmas.Option.{slice_get_within, slice_get_past}
use Rattle.linked_cells.proofs.list_laws.Lists.{last_push}
use Rattle.linked_cells.specs.cell_library.declared.listed.ListedCell.{ListedCell}
use Rattle.linked_cells.specs.netlist_model.Lists.{CellView, NetlistView, live_cell, cell_at, cell_count}
use Rattle.linked_cells.specs.netlist_model.Contained.{IsDense}
use Rattle.netlist_arena.specs.Arena.{HasItsOperands, IsPlaceBelow, live_count}
use Rattle.netlist_arena.specs.Adds.{AddsCell, PutsCell}
use Rattle.netlist_arena.specs.Moves.{RemovesCell}
use Rattle.netlist_arena.proofs.Places.{slice_get-push_other, slice_get-set_same, slice_get-set_other}
use Rattle.netlist_arena.proofs.Changes.{one_if_live, live_count_push, live_count_removed}

-- the live cells have the numbers below their count
abbrev IsDenseList : List (Option CellView) → Type 0
IsDenseList cells = (i : ℕ) → i < live_count cells → IsSome (live_cell (slice_get cells i))

count_hole : (cells : List (Option CellView)) → live_count (None ∷ cells) ≡ live_count cells
count_hole cells = let count = sum_by-cons one_if_live None cells in omega (arith, count)

count_cell : (cell : CellView) (cells : List (Option CellView)) → live_count (Some cell ∷ cells) ≡ suc (live_count cells)
count_cell cell cells = let count = sum_by-cons one_if_live (Some cell) cells in omega (arith, count)

-- where no cell is live, each number is empty
none_live : (cells : List (Option CellView)) (i : ℕ) → live_count cells ≡ 0 → live_cell (slice_get cells i) ≡ None
none_live [] i none = refl
none_live (None ∷ ps) zero none = refl
none_live (Some c ∷ ps) i none = let count = count_cell c ps in absurd (omega arith)
none_live (None ∷ ps) (suc i) none = none_live ps i (sym (count_hole ps) ∙ none)

past_count : (cells : List (Option CellView)) (k : ℕ) → IsDenseList cells → live_cell (slice_get cells (live_count cells + k)) ≡ None
past_count [] k dense = refl
past_count (None ∷ ps) k dense =
    elim (cases_eq (live_count (None ∷ ps)) 0) [
      | inl none ↦ none_live (None ∷ ps) (live_count (None ∷ ps) + k) none
      | inr some ↦ (let no : false ≡ true = dense 0 (omega arith) in absurd (cc))
    ]
past_count (Some c ∷ ps) k dense =
    let count = count_cell c ps in
    let e : live_count (Some c ∷ ps) + k ≡ suc (live_count ps + k) = omega arith in
    rw e (past_count ps k (λ i below. dense (suc i) (omega arith)))

-- in a dense netlist no number past the count is live
pub dense_past : (N : NetlistView) (k : ℕ) → IsDense N → cell_at N (cell_count N + k) ≡ None
dense_past N k dense = past_count N.cells k dense

-- in a dense netlist the place of the count is empty, or the places end there
dense_ends : (cells : List (Option CellView)) → IsDenseList cells → slice_get cells (live_count cells) ≢ Some None → length cells ≡ live_count cells
dense_ends [] dense taken = refl
dense_ends (None ∷ ps) dense taken =
    elim (cases_eq (live_count (None ∷ ps)) 0) [
      | inl none ↦ absurd (taken (rw none refl))
      | inr some ↦ (let no : false ≡ true = dense 0 (omega arith) in absurd (cc))
    ]
dense_ends (Some c ∷ ps) dense taken =
    let count = count_cell c ps in
    let rest = dense_ends ps (λ i below. dense (suc i) (omega arith)) (λ e. taken (rw count e)) in
    omega arith

-- an empty place that is filled
pub live_count_filled : (cells : List (Option CellView)) (i : ℕ) (cell : CellView) → slice_get cells i ≡ Some None → live_count (set cells i (Some cell)) ≡ live_count cells + 1
live_count_filled [] i cell empty = absurd (cc)
live_count_filled (None ∷ ps) zero cell empty = let before = count_hole ps in let after = count_cell cell ps in omega arith
live_count_filled (Some c ∷ ps) zero cell empty = absurd (cc)
live_count_filled (p ∷ ps) (suc i) cell empty =
    let before = sum_by-cons one_if_live p ps in
    let after = sum_by-cons one_if_live p (set ps i (Some cell)) in
    let rest = live_count_filled ps i cell empty in omega (arith, before, after, rest)

-- a cell that was put in a place
pub puts_adds : (N : NetlistView) (cells : List (Option CellView)) (free number : ℕ) (cell : CellView) → free ≡ cell_count N → PutsCell N.cells cells free number cell
    → AddsCell N (record N { cells = cells }) number cell
puts_adds N cells free number cell counted (inl fills) =
    let places = fills.places in
    let is = fills.is in
    let empty = fills.empty in
    let below = slice_get_within N.cells free None empty in
    record {
      library = refl;
      ports = refl;
      nets = refl;
      fresh = rw is (ap live_cell empty);
      added = rw (places, is) (ap live_cell (slice_get-set_same N.cells free (Some cell) below));
      others = λ other differ. rw places (ap live_cell (slice_get-set_other N.cells free other (Some cell) (λ e. differ (e ∙ sym is))));
      count = rw places (live_count_filled N.cells free cell empty);
      last = λ _. is ∙ counted;
    }
puts_adds N cells free number cell counted (inr follows) =
    let places = follows.places in
    let is = follows.is in
    record {
      library = refl;
      ports = refl;
      nets = refl;
      fresh = let past : slice_get N.cells number ≡ None = slice_get_past N.cells number (omega arith) in ap live_cell past;
      added = rw (places, is) (ap live_cell (last_push N.cells (Some cell)));
      others = λ other differ. rw places (ap live_cell (slice_get-push_other N.cells (Some cell) other (λ e. differ (e ∙ sym is))));
      count = rw places (live_count_push N.cells cell);
      last = λ dense. is ∙ dense_ends N.cells dense (rw counted at follows.taken);
    }

pub puts_below : (n : ℕ) (old new : List (Option CellView)) (free number : ℕ) (cell : CellView) → PutsCell old new free number cell → IsPlaceBelow n (Some cell) → All (IsPlaceBelow n) old
    → All (IsPlaceBelow n) new
puts_below n old new free number cell (inl fills) here below = let places = fills.places in rw places (All-set (IsPlaceBelow n) old free (Some cell) here below)
puts_below n old new free number cell (inr follows) here below = let places = follows.places in rw places (All-push (IsPlaceBelow n) old (Some cell) below here)

pub puts_counts : (library : List ListedCell) (old new : List (Option CellView)) (free number : ℕ) (cell : CellView) → PutsCell old new free number cell → HasItsOperands library (Some cell) → All (HasItsOperands library) old → All (HasItsOperands library) new
puts_counts library old new free number cell (inl fills) here counts = let places = fills.places in rw places (All-set (HasItsOperands library) old free (Some cell) here counts)
puts_counts library old new free number cell (inr follows) here counts = let places = follows.places in rw places (All-push (HasItsOperands library) old (Some cell) counts here)

-- a cell whose place was emptied
pub emptied : (N : NetlistView) (number : ℕ) → IsSome (cell_at N number) → number < length N.cells → RemovesCell N (record N { cells = set N.cells number None }) number
emptied N number live below = record {
  library = refl;
  ports = refl;
  nets = refl;
  gone = ap live_cell (slice_get-set_same N.cells number None below);
  others = λ other differ. ap live_cell (slice_get-set_other N.cells number other None differ);
  count = live_count_removed N.cells number live;
}
