-- Nets that are apart and free, in lists that are joined.
use Rattle.std.proofs.Common.{◌≡◌, ◌≢◌, ℕ, suc, zero, ◌+◌, ◌<◌, ◌≤◌, List, [], ◌∷◌, ◌++◌, length, drop, subst, arith}
use Rattle.std.proofs.lemmas.List.Sums.{sum_by-cons}
use Rattle.netlist_model.specs.Lists.{NetlistView}
use Rattle.netlist_arena.specs.Adds.{IsFree}
use Rattle.plan_fitting.specs.declared.fitted.FitRow.{FitRow}
use Rattle.core_sides.specs.stitched_netlist.Sites.{Boundary, row_sides, sides_of}
use Rattle.test_logic_parts.specs.Rows.{into_of, into_from, IsApart, AreApart, AreFree}

pub apart_right : (xs ys : List ℕ) (net : ℕ) → IsApart (xs ++ ys) net → IsApart ys net
apart_right [] ys net h = h
apart_right (x ∷ xs) ys net h = apart_right xs ys net h.1

pub apart_left : (xs ys : List ℕ) (net : ℕ) → IsApart (xs ++ ys) net → IsApart xs net
apart_left [] ys net h = tt
apart_left (x ∷ xs) ys net h = (h.0, apart_left xs ys net h.1)

pub apart_front : (xs ys : List ℕ) → AreApart (xs ++ ys) → AreApart xs
apart_front [] ys h = tt
apart_front (x ∷ xs) ys h = (apart_left xs ys x h.0, apart_front xs ys h.1)

pub apart_back : (xs ys : List ℕ) → AreApart (xs ++ ys) → AreApart ys
apart_back [] ys h = h
apart_back (x ∷ xs) ys h = apart_back xs ys h.1

pub free_front : (N : NetlistView) (xs ys : List ℕ) → AreFree N (xs ++ ys) → AreFree N xs
free_front N [] ys h = tt
free_front N (x ∷ xs) ys h = (h.0, h.1, free_front N xs ys h.2)

pub free_back : (N : NetlistView) (xs ys : List ℕ) → AreFree N (xs ++ ys) → AreFree N ys
free_back N [] ys h = h
free_back N (x ∷ xs) ys h = free_back N xs ys h.2

-- nets before a list stay free, where only those of the list are driven
pub free_kept : (old new : NetlistView) (xs ys : List ℕ) → length old.nets ≤ length new.nets
    → ((net : ℕ) → IsApart ys net → net < length old.nets → IsFree old net → IsFree new net) → AreApart (xs ++ ys) → AreFree old (xs ++ ys) → AreFree new xs
free_kept old new [] ys more keeps apart free = tt
free_kept old new (x ∷ xs) ys more keeps apart free =
    let low = free.0 in
    (omega arith, keeps x (apart_right xs ys x apart.0) low free.1, free_kept old new xs ys more keeps apart.1 free.2)

-- The nets of the last rows are the last of all rows' nets.

pub of_last_rows : (B : Boundary) (P : List ℕ → Type 0) → P [] → ((xs ys : List ℕ) → P (xs ++ ys) → P ys) → (k side last : ℕ) (rows : List FitRow)
    → last + sides_of B.ports (drop k rows) ≡ side + sides_of B.ports rows → P (into_from B side rows) → P (into_from B last (drop k rows))
of_last_rows B P none back zero side last rows e h = let same : side ≡ last = omega arith in let Q : ℕ → Type 0 = λ n. P (into_from B n rows) in subst Q same h
of_last_rows B P none back (suc k) side last [] e h = none
of_last_rows B P none back (suc k) side last (row ∷ rows) e h =
    let more = sum_by-cons (row_sides B.ports) row rows in
    of_last_rows B P none back k (side + row_sides B.ports row) last rows (omega arith) (back (into_of B side row) (into_from B (side + row_sides B.ports row) rows) h)
