-- Lists of ports and of cells, by their counts.
use Rattle.std.proofs.Common.{◌≡◌, ℕ, suc, ◌+◌, ◌*◌, ◌≤◌, List, [], ◌∷◌, ◌++◌, map, length, length-append, refl, sym, ◌∙◌, ap, Option, Some, None, arith}
use Rattle.std.specs.Prelude.{slice_get, count_by, sum_by, is_some}
use Rattle.std.proofs.lemmas.List.{length-map}
use Rattle.std.proofs.lemmas.List.Sums.{sum_by-cons}
use Rattle.netlist_model.specs.declared.NetId.{NetId}
use Rattle.netlist_model.specs.Lists.{PortView, CellView, live_cell}
use Rattle.netlist_arena.specs.Arena.{bit_count}
use Rattle.core_sides.specs.netlist_unlink.Renumbered.{port_numbers}
use Rattle.core_sides.proofs.stitched_netlist.PlacesLaws.{counts_live, counts_empty}

-- Sums.

pub sum_few : {X : Type 0} (f : X → ℕ) (most : ℕ) → ((x : X) → f x ≤ most) → (xs : List X) → sum_by f xs ≤ most * length xs
sum_few f most few [] = omega arith
sum_few f most few (x ∷ xs) =
    let e = sum_by-cons f x xs in
    let rest = sum_few f most few xs in
    let here = few x in
    let more : most * suc (length xs) ≡ most * length xs + most = times_more most (length xs) in
    omega arith
  where
    times_more : (a n : ℕ) → a * suc n ≡ a * n + a
    times_more a n = grind arith

-- the numbers of ports are as many as their bits
pub numbers_count : (ports : List PortView) → length (port_numbers ports) ≡ bit_count ports
numbers_count [] = refl
numbers_count (p ∷ ports) =
    let here : List ℕ = map (λ (n : NetId). n.0) p.nets in
    let both = length-append here (port_numbers ports) in
    let own : length here ≡ length p.nets = length-map p.nets (λ (n : NetId). n.0) in
    let e = sum_by-cons (λ (port : PortView). length port.nets) p ports in
    let rest = numbers_count ports in
    omega arith

pub bits_append : (ps qs : List PortView) → bit_count (ps ++ qs) ≡ bit_count ps + bit_count qs
bits_append [] qs = let none : bit_count [] ≡ 0 = refl in omega arith
bits_append (p ∷ ps) qs =
    let a = sum_by-cons (λ (port : PortView). length port.nets) p (ps ++ qs) in
    let b = sum_by-cons (λ (port : PortView). length port.nets) p ps in
    let rest = bits_append ps qs in
    omega arith

-- Live cells.

-- the same live cells under each number are as many
pub same_count : (xs ys : List (Option CellView)) → ((i : ℕ) → live_cell (slice_get xs i) ≡ live_cell (slice_get ys i)) → count_by is_some xs ≡ count_by is_some ys
same_count [] [] same = refl
same_count [] (None ∷ ys) same = same_count [] ys (λ i. same (suc i)) ∙ sym (counts_empty ys)
same_count [] (Some c ∷ ys) same = absurd (let no : None ≡ Some c = same 0 in cc)
same_count (None ∷ xs) [] same = counts_empty xs ∙ same_count xs [] (λ i. same (suc i))
same_count (Some c ∷ xs) [] same = absurd (let no : Some c ≡ None = same 0 in cc)
same_count (None ∷ xs) (None ∷ ys) same = counts_empty xs ∙ same_count xs ys (λ i. same (suc i)) ∙ sym (counts_empty ys)
same_count (None ∷ xs) (Some c ∷ ys) same = absurd (let no : None ≡ Some c = same 0 in cc)
same_count (Some c ∷ xs) (None ∷ ys) same = absurd (let no : Some c ≡ None = same 0 in cc)
same_count (Some c ∷ xs) (Some d ∷ ys) same = counts_live c xs ∙ ap suc (same_count xs ys (λ i. same (suc i))) ∙ sym (counts_live d ys)
