-- Cells by their places in lists that stand behind one another.
use Rattle.std.proofs.Common.{◌≡◌, ◌⊎◌, inl, inr, ℕ, zero, suc, ◌+◌, List, [], ◌∷◌, ◌++◌, length, subst, Some, arith}
use Rattle.std.specs.Prelude.{slice_get}
use Rattle.netlist_model.specs.Lists.{CellView}
use Rattle.stitched_netlist.specs.CellsLaws.{IsAt}

-- A cell of two lists is one of the first, or one of the second.

one_more : (i from : ℕ) (x : CellView) (xs ys : List CellView) (cell : CellView) → IsAt i (suc from) xs cell ⊎ IsAt i (suc from + length xs) ys cell
    → IsAt i from (x ∷ xs) cell ⊎ IsAt i (from + suc (length xs)) ys cell
one_more i from x xs ys cell (inl a) = inl (record { place = suc a.place; is = let is = a.is in omega arith; at = a.at })
one_more i from x xs ys cell (inr b) = inr (record { place = b.place; is = let is = b.is in omega arith; at = b.at })

by_place : (i from : ℕ) (xs ys : List CellView) (cell : CellView) (place : ℕ) → i ≡ from + place → slice_get (xs ++ ys) place ≡ Some cell
    → IsAt i from xs cell ⊎ IsAt i (from + length xs) ys cell
by_place i from [] ys cell place is at = inr (record { place = place; is = omega arith; at = at })
by_place i from (x ∷ xs) ys cell zero is at = inl (record { place = 0; is = is; at = at })
by_place i from (x ∷ xs) ys cell (suc place) is at = one_more i from x xs ys cell (by_place i (suc from) xs ys cell place (omega arith) at)

pub split : (i from : ℕ) (xs ys : List CellView) (cell : CellView) → IsAt i from (xs ++ ys) cell → IsAt i from xs cell ⊎ IsAt i (from + length xs) ys cell
split i from xs ys cell h = by_place i from xs ys cell h.place h.is h.at

pub front : (i from : ℕ) (xs ys : List CellView) (cell : CellView) → IsAt i from xs cell → IsAt i from (xs ++ ys) cell
front i from xs ys cell h = record { place = h.place; is = h.is; at = there xs h.place h.at }
  where
    there : (zs : List CellView) (place : ℕ) → slice_get zs place ≡ Some cell → slice_get (zs ++ ys) place ≡ Some cell
    there [] place at = absurd (cc)
    there (z ∷ zs) zero at = at
    there (z ∷ zs) (suc place) at = there zs place at

pub back : (i from : ℕ) (xs ys : List CellView) (cell : CellView) → IsAt i (from + length xs) ys cell → IsAt i from (xs ++ ys) cell
back i from [] ys cell h = record { place = h.place; is = let is = h.is in omega arith; at = h.at }
back i from (x ∷ xs) ys cell h =
    let one : IsAt i (suc from + length xs) ys cell = record { place = h.place; is = let is = h.is in omega arith; at = h.at } in
    let rest = back i (suc from) xs ys cell one in
    record { place = suc rest.place; is = let is = rest.is in omega arith; at = rest.at }

-- The same part by another number for its first cell.

pub moved : (part : ℕ → List CellView) (m n i : ℕ) (cell : CellView) → m ≡ n → IsAt i m (part m) cell → IsAt i n (part n) cell
moved part m n i cell e h = subst (λ (k : ℕ). IsAt i k (part k) cell) e h

pub same_list : (i from : ℕ) (xs ys : List CellView) (cell : CellView) → xs ≡ ys → IsAt i from xs cell → IsAt i from ys cell
same_list i from xs ys cell e h = subst (λ (zs : List CellView). IsAt i from zs cell) e h
