-- A scalar port leaves other nets free to have a pin; and nets are added one behind the other.
use Rattle.std.proofs.Common.{◌≡◌, ◌≢◌, ℕ, ◌+◌, ◌-◌, ◌==◌, ◌<◌, Bool, true, false, List, [], ◌∷◌, ◌++◌, length, length-append, append_assoc, refl, sym, ◌∙◌, ap, Option, Some, None, arith}
use Rattle.std.specs.Prelude.{◌||◌, if◌then◌else◌}
use Rattle.netlist_model.specs.declared.Dir.{Dir}
use Rattle.netlist_model.specs.declared.Name.{Name}
use Rattle.netlist_model.specs.declared.NetId.{NetId}
use Rattle.std.proofs.lemmas.List.{append-nil}
use Rattle.netlist_model.specs.declared.Name.TheVariants.{Added}
use Rattle.netlist_model.specs.Lists.{PortView, NetView, NetlistView, direction, is_among}
use Rattle.netlist_arena.specs.Arena.{SpareView}
use Rattle.netlist_arena.specs.Adds.{with_net, with_port, CanBePin}
use Rattle.gate_parts.specs.Parts.{added_nets}
use Rattle.gate_parts.proofs.Steps.{length-added_nets, added_nets-add}
use Rattle.core_sides.specs.stitched_netlist.Stitched.{scalar, with_nets}

by_first : (here : Bool) (dir : Dir) (rest : Option Dir) → (if here then Some dir else rest) ≡ None → (here ≡ false) × (rest ≡ None)
by_first true dir rest e = absurd (cc)
by_first false dir rest e = (refl, e)

pub outside_more : (name : Name) (dir : Dir) (net : NetId) (other : ℕ) (ports : List PortView) → other ≢ net.0 → direction ports other ≡ None
    → direction (ports ++ scalar name dir net ∷ []) other ≡ None
outside_more name dir net other [] differ outside = let e : (net.0 == other) ≡ false = grind arith in rw e refl
outside_more name dir net other (port ∷ ports) differ outside =
    let split = by_first (is_among other port.nets) port.dir (direction ports other) outside in
    let rest = outside_more name dir net other ports differ split.1 in
    let here = split.0 in
    rw here rest

pub pin_stays : (name : Name) (dir : Dir) (net : NetId) (old new : NetlistView) → new ≡ with_port (scalar name dir net) old → (side : Dir) (other : NetId) → other.0 ≢ net.0
    → CanBePin old side other → CanBePin new side other
pin_stays name dir net old new is side other differ can =
    let there : CanBePin (with_port (scalar name dir net) old) side other = record {
      there = can.there;
      inside = outside_more name dir net other.0 old.ports differ can.inside;
      undriven = can.undriven;
    } in
    rw is there

-- Nets one behind the other.

pub sides_none : (N : NetlistView) → N ≡ with_nets [] N
sides_none N = let e = append-nil N.nets in ap (λ (nets : List NetView). record N { nets = nets }) (sym e)

pub sides_more : (N M M' : NetlistView) (count : ℕ) → M ≡ with_nets (added_nets (length N.nets) count) N
    → M' ≡ with_net (record { name = Added (length M.nets); index = None }) M → M' ≡ with_nets (added_nets (length N.nets) (count + 1)) N
sides_more N M M' count before grown =
    let nets : M.nets ≡ N.nets ++ added_nets (length N.nets) count = ap (λ (L : NetlistView). L.nets) before in
    let long : length M.nets ≡ length N.nets + count
    = ap length nets ∙ length-append N.nets (added_nets (length N.nets) count) ∙ ap (λ (n : ℕ). length N.nets + n) (length-added_nets (length N.nets) count) in
    let one : NetView = record { name = Added (length N.nets + count); index = None } in
    let named : ℕ → NetView = λ n. record { name = Added n; index = None } in
    let joined : M.nets ++ named (length M.nets) ∷ [] ≡ N.nets ++ added_nets (length N.nets) (count + 1)
    = ap (λ (xs : List NetView). xs ++ named (length M.nets) ∷ []) nets
    ∙ ap (λ (n : ℕ). (N.nets ++ added_nets (length N.nets) count) ++ named n ∷ []) long
    ∙ append_assoc N.nets (added_nets (length N.nets) count) (one ∷ [])
    ∙ ap (λ (xs : List NetView). N.nets ++ xs) (sym (added_nets-add (length N.nets) count 1)) in
    let P : NetlistView → List NetView → NetlistView = λ L xs. record L { nets = xs } in
    grown ∙ ap (λ (L : NetlistView). P L (M.nets ++ named (length M.nets) ∷ [])) before ∙ ap (P N) joined

pub room_less : (S T U : SpareView) (count : ℕ) → T ≡ record S { nets = S.nets - count } → U ≡ record T { nets = T.nets - 1 } → U ≡ record S { nets = S.nets - (count + 1) }
room_less S T U count before after =
    let e : S.nets - count - 1 ≡ S.nets - (count + 1) = omega arith in
    let P : SpareView → SpareView = λ V. record V { nets = V.nets - 1 } in
    after ∙ ap P before ∙ ap (λ (n : ℕ). record S { nets = n }) e

pub room_same : (S : SpareView) → S ≡ record S { nets = S.nets - 0 }
room_same S = let e : S.nets ≡ S.nets - 0 = omega arith in ap (λ (n : ℕ). record S { nets = n }) e
