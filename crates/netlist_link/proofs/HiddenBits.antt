-- The bits of hidden ports, counted port by port.
use Rattle.std.proofs.Common.{◌≡◌, subst, ℕ, zero, suc, ◌+◌, ◌-◌, ◌<◌, ◌≤◌, min, List, [], ◌∷◌, ◌++◌, length, take, drop, refl, ap, sym, ◌∙◌, Option, Some, None, arith}
use Rattle.std.specs.Prelude.{slice_get}
use Rattle.std.specs.Option.{option_map}
use Rattle.std.proofs.lemmas.List.{length-drop, take_min}
use Rattle.std.proofs.lemmas.List.Sums.{sum_by_push, sum_by-take-le, sum_by-take-drop}
use Rattle.std.proofs.lemmas.Option.{same_Some}
use Rattle.list_laws.proofs.Lists.{taken_more}
use Rattle.netlist_model.specs.declared.Range.{Range}
use Rattle.netlist_model.specs.Lists.{NetlistView, PortView}
use Rattle.netlist_model.specs.Formed.{IsLaidOut, width_of}
use Rattle.netlist_arena.specs.Arena.{bit_count}

abbrev bits : PortView → ℕ
bits port = length port.nets

left_there : (ports : List PortView) (first place : ℕ) (port : PortView) → slice_get ports (first + place) ≡ Some port → slice_get (drop first ports) place ≡ Some port
left_there ports zero place port at = let same : 0 + place ≡ place = omega arith in subst (λ (n : ℕ). slice_get ports n ≡ Some port) same at
left_there [] (suc first) place port at = absurd (cc)
left_there (x ∷ ports) (suc first) place port at =
    let same : suc first + place ≡ suc (first + place) = omega arith in
    left_there ports first place port (subst (λ (n : ℕ). slice_get (x ∷ ports) n ≡ Some port) same at)

-- one port more
more_bits : (ports : List PortView) (first place : ℕ) (port : PortView) → slice_get ports (first + place) ≡ Some port
    → bit_count (take (place + 1) (drop first ports)) ≡ bit_count (take place (drop first ports)) + length port.nets
more_bits ports first place port at =
    let rest : List PortView = drop first ports in
    let here = left_there ports first place port at in
    ap bit_count (sym (taken_more rest place port (take place rest) (take place rest ++ port ∷ []) here refl refl)) ∙ sum_by_push bits (take place rest) port

-- no more than all
pub hidden_few : (ports : List PortView) (first place : ℕ) → bit_count (take place (drop first ports)) ≤ bit_count ports
hidden_few ports first place =
    let some = sum_by-take-le bits (drop first ports) place in
    let all = sum_by-take-drop bits ports first in
    omega (arith, some, all)

-- one more of those that are there, by its range
pub hidden_step : (N : NetlistView) (first count start many place : ℕ) (range : Option Range) → IsLaidOut N → start ≡ min first (length N.ports) → many ≡ min count (length N.ports - start) → place < many
    → option_map (λ (found : PortView). found.range) (slice_get N.ports (start + place)) ≡ Some range
    → bit_count (take (place + 1) (drop first N.ports)) ≡ bit_count (take place (drop first N.ports)) + width_of range
hidden_step N first count start many place range laid start_is many_is less at =
    let same : start ≡ first = omega (arith, start_is, many_is, less) in
    by (slice_get N.ports (first + place)) refl (subst (λ (n : ℕ). option_map (λ (found : PortView). found.range) (slice_get N.ports (n + place)) ≡ Some range) same at)
  where
    by : (o : Option PortView) → slice_get N.ports (first + place) ≡ o → option_map (λ (found : PortView). found.range) o ≡ Some range
        → bit_count (take (place + 1) (drop first N.ports)) ≡ bit_count (take place (drop first N.ports)) + width_of range
    by None e is = absurd (cc)
    by (Some port) e is =
        let wide : length port.nets ≡ width_of range = laid.widths (first + place) port e ∙ ap width_of (same_Some port.range range is) in
        more_bits N.ports first place port e ∙ ap (λ (n : ℕ). bit_count (take place (drop first N.ports)) + n) wide

-- all are counted
pub hidden_all : (ports : List PortView) (first count start many place : ℕ) → start ≡ min first (length ports) → many ≡ min count (length ports - start) → place ≡ many
    → take place (drop first ports) ≡ take count (drop first ports)
hidden_all ports first count start many place start_is many_is done =
    let left = length-drop first ports in
    let same : place ≡ min count (length (drop first ports)) = omega (arith, left, start_is, many_is, done) in
    ap (λ (n : ℕ). take n (drop first ports)) same ∙ take_min count (drop first ports)
