-- A contained cell means in a netlist what it means by itself.
use Rattle.std.proofs.Common.{◌≡◌, ℕ, zero, suc, ◌+◌, ◌<◌, ◌≤◌, List, [], ◌∷◌, ◌++◌, Option, if◌then◌else◌, true, false, inl, inr, arith}
use Rattle.std.specs.Prelude.{Some, None, slice_get, count_by, is_some, IsSome}
use Rattle.std.proofs.lemmas.List.Sums.{sum_by-cons}
use Rattle.cell_library.proofs.list_laws.Numbers.{below_or_not}
use Rattle.netlist_model.specs.Lists.{CellView, NetlistView, live_cell, cell_count}
use Rattle.netlist_model.specs.Contained.{HasCells}
use Rattle.netlist_model.specs.LawsContained.{ContainedByPlace, ContainedParts, DenseNumbers}

pub contained_by_place : ContainedByPlace
contained_by_place N [] h k cell e = absurd (cc)
contained_by_place N (c ∷ cells) h zero cell e = let same : c ≡ cell = cc in rw same at h.0
contained_by_place N (c ∷ cells) h (suc k) cell e = contained_by_place N cells h.1 k cell e

parts_of : (N : NetlistView) (xs ys : List CellView) → HasCells N (xs ++ ys) → HasCells N xs × HasCells N ys
parts_of N [] ys h = (tt, h)
parts_of N (x ∷ xs) ys h = let rest = parts_of N xs ys h.1 in ((h.0, rest.0), rest.1)

whole_of : (N : NetlistView) (xs ys : List CellView) → HasCells N xs → HasCells N ys → HasCells N (xs ++ ys)
whole_of N [] ys h g = g
whole_of N (x ∷ xs) ys h g = (h.0, whole_of N xs ys h.1 g)

pub contained_parts : ContainedParts
contained_parts N xs ys = record { parts = parts_of N xs ys; whole = whole_of N xs ys }

count_by-live : (c : CellView) (places : List (Option CellView)) → count_by is_some (Some c ∷ places) ≡ 1 + count_by is_some places
count_by-live c places = sum_by-cons (λ (x : Option CellView). if is_some x then 1 else 0) (Some c) places

count_by-empty : (places : List (Option CellView)) → count_by is_some (None ∷ places) ≡ count_by is_some places
count_by-empty places = let e = sum_by-cons (λ (x : Option CellView). if is_some x then 1 else 0) None places in omega arith

-- a live cell counts
one_counts : (places : List (Option CellView)) (j : ℕ) → IsSome (live_cell (slice_get places j)) → 0 < count_by is_some places
one_counts [] j some = absurd (let h : false ≡ true = some in cc)
one_counts (None ∷ places) zero some = absurd (let h : false ≡ true = some in cc)
one_counts (Some c ∷ places) zero some = omega (arith, count_by-live c places)
one_counts (None ∷ places) (suc j) some = let h = one_counts places j some in omega (arith, count_by-empty places)
one_counts (Some c ∷ places) (suc j) some = omega (arith, count_by-live c places)

-- so many live cells in front, and one more behind them
more_count : (n : ℕ) (places : List (Option CellView)) (j : ℕ) → ((i : ℕ) → i < n → IsSome (live_cell (slice_get places i))) → n ≤ j
    → IsSome (live_cell (slice_get places j)) → n < count_by is_some places
more_count zero places j front h some = one_counts places j some
more_count (suc n) [] j front h some = absurd (let h : false ≡ true = some in cc)
more_count (suc n) (None ∷ places) j front h some = absurd (let h : false ≡ true = front 0 (omega arith) in cc)
more_count (suc n) (Some c ∷ places) zero front h some = absurd (omega arith)
more_count (suc n) (Some c ∷ places) (suc j) front h some =
    let rest = more_count n places j (λ i less. front (suc i) (omega arith)) (omega arith) some in omega (arith, count_by-live c places)

pub dense_numbers : DenseNumbers
dense_numbers N dense i some =
    elim (below_or_not i (cell_count N)) [
      | inl less ↦ less
      | inr least ↦ absurd (let more = more_count (cell_count N) N.cells i dense least some in omega arith)
    ]
