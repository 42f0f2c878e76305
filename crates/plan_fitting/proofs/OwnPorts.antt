-- The ports before the hidden ones, by their places.
use Rattle.std.proofs.Common.{◌≡◌, ◌⊎◌, ℕ, zero, suc, ◌+◌, ◌<◌, ◌≤◌, true, List, [], ◌∷◌, length, take, slice_get, Some, refl, inl, inr, arith, lt-ltb, le-leb}
use Rattle.std.proofs.lemmas.Bool.{and_from, cases_lt}
use Rattle.std.proofs.lemmas.List.Sums.{sum_by-cons}
use Rattle.std.proofs.lemmas.Option.{slice_get_within}
use Rattle.list_laws.proofs.Lists.{in_front}
use Rattle.netlist_model.specs.Lists.{PortView}
use Rattle.netlist_arena.specs.Arena.{bit_count}
use Rattle.netlist_unlink.specs.netlist_link.Linked.{LinkedView, own_ports, is_straight}
use Rattle.netlist_unlink.specs.netlist_link.Hidden.{EndsHidden}

taken_at : {X : Type 0} (n : ℕ) (xs : List X) (k : ℕ) (x : X) → slice_get (take n xs) k ≡ Some x → (k < n) × (slice_get xs k ≡ Some x)
taken_at zero xs k x h = absurd (cc)
taken_at (suc n) [] k x h = absurd (cc)
taken_at (suc n) (y ∷ ys) zero x h = (omega arith, h)
taken_at (suc n) (y ∷ ys) (suc k) x h =
    let rest = taken_at n ys k x h in
    let low : k < n = rest.0 in
    (omega arith, rest.1)

pub own_there : (L : LinkedView) (k : ℕ) (port : PortView) → slice_get (own_ports L) k ≡ Some port → slice_get L.arena.lists.ports k ≡ Some port
own_there L k port h = (taken_at L.straight.first L.arena.lists.ports k port h).1

pub own_below : (L : LinkedView) (k : ℕ) (port : PortView) → slice_get (own_ports L) k ≡ Some port → k < L.straight.first
own_below L k port h = (taken_at L.straight.first L.arena.lists.ports k port h).0

pub own_from : (L : LinkedView) (k : ℕ) (port : PortView) → k < L.straight.first → slice_get L.arena.lists.ports k ≡ Some port → slice_get (own_ports L) k ≡ Some port
own_from L k port low there = in_front L.arena.lists.ports L.straight.first k port low there

taken_count : {X : Type 0} (n : ℕ) (xs : List X) → n ≤ length xs → length (take n xs) ≡ n
taken_count zero xs few = omega arith
taken_count (suc n) [] few = absurd (omega arith)
taken_count (suc n) (x ∷ xs) few =
    let rest : length (take n xs) ≡ n = taken_count n xs (omega arith) in
    omega arith

pub own_count : (L : LinkedView) → EndsHidden L → length (own_ports L) ≡ L.straight.first
own_count L ends =
    let all : L.straight.first + L.straight.count ≡ length L.arena.lists.ports = ends in
    taken_count L.straight.first L.arena.lists.ports (omega arith)

-- a port is hidden or not
pub own_or_hidden : (L : LinkedView) → EndsHidden L → (k : ℕ) (port : PortView) → slice_get L.arena.lists.ports k ≡ Some port → (k < L.straight.first) ⊎ (is_straight L k ≡ true)
own_or_hidden L ends k port there =
    let inside : k < length L.arena.lists.ports = slice_get_within L.arena.lists.ports k port there in
    let all : L.straight.first + L.straight.count ≡ length L.arena.lists.ports = ends in
    elim (cases_lt k L.straight.first) [
      | inl low ↦ inl low
      | inr high ↦ inr (and_from _ _ (le-leb _ _ high) (lt-ltb _ _ (omega arith)))
    ]

taken_bits : (n : ℕ) (ports : List PortView) → bit_count (take n ports) ≤ bit_count ports
taken_bits zero ports = omega arith
taken_bits (suc n) [] = omega arith
taken_bits (suc n) (port ∷ ports) =
    let rest : bit_count (take n ports) ≤ bit_count ports = taken_bits n ports in
    let some : bit_count (port ∷ take n ports) ≡ length port.nets + bit_count (take n ports) = sum_by-cons (λ (q : PortView). length q.nets) port (take n ports) in
    let all : bit_count (port ∷ ports) ≡ length port.nets + bit_count ports = sum_by-cons (λ (q : PortView). length q.nets) port ports in
    omega arith

-- they have no more bits than all ports
pub own_bits_few : (L : LinkedView) → bit_count (own_ports L) ≤ bit_count L.arena.lists.ports
own_bits_few L = taken_bits L.straight.first L.arena.lists.ports

taken_same : {X : Type 0} (n : ℕ) (xs : List X) (k : ℕ) → k < length (take n xs) → slice_get (take n xs) k ≡ slice_get xs k
taken_same zero xs k low = absurd (omega arith)
taken_same (suc n) [] k low = absurd (omega arith)
taken_same (suc n) (y ∷ ys) zero low = refl
taken_same (suc n) (y ∷ ys) (suc k) low = taken_same n ys k (omega arith)

pub own_same : (L : LinkedView) (k : ℕ) → k < length (own_ports L) → slice_get (own_ports L) k ≡ slice_get L.arena.lists.ports k
own_same L k low = taken_same L.straight.first L.arena.lists.ports k low

taken_few : {X : Type 0} (n : ℕ) (xs : List X) → length (take n xs) ≤ length xs
taken_few zero xs = omega arith
taken_few (suc n) [] = omega arith
taken_few (suc n) (x ∷ xs) =
    let rest : length (take n xs) ≤ length xs = taken_few n xs in
    omega arith

pub own_few : (L : LinkedView) → length (own_ports L) ≤ length L.arena.lists.ports
own_few L = taken_few L.straight.first L.arena.lists.ports
