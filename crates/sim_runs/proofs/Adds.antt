-- Bits that are added one after another.
use Rattle.std.proofs.Common.{◌≡◌, ℕ, zero, suc, ◌+◌, ◌<◌, ◌⊎◌, List, [], ◌∷◌, ◌++◌, length, map, take, refl, sym, ◌∙◌, ap, arith, append_assoc, inl, inr, Option, Some, None}
use Rattle.std.specs.Option.{option_and_then}
use Rattle.std.specs.List.{slice_get, flat_map}
use Rattle.std.proofs.lemmas.Option.{same_Some}
use Rattle.list_laws.proofs.Lists.{map_push}
use Rattle.netlist_model.specs.declared.NetId.{NetId}
use Rattle.netlist_model.specs.Lists.{PortView, NetlistView}
use Rattle.netlist_meaning.specs.Pins.{net_of}
use Rattle.sim_runs.specs.declared.shown.Shown.{Shown}
use Rattle.sim_runs.specs.Shown.{shown_of}
use Rattle.sim_runs.specs.Bits.{net_at, port_nets, shown_at, HavePins}
use Rattle.sim_runs.proofs.Lists.{front_next, flat_map-push}

pushed_at : {X : Type 0} (xs : List X) (x : X) (k : ℕ) (y : X) → slice_get (xs ++ x ∷ []) k ≡ Some y → (slice_get xs k ≡ Some y) ⊎ (x ≡ y)
pushed_at [] x zero y at = inr (same_Some x y at)
pushed_at [] x (suc k) y at = inl at
pushed_at (z ∷ zs) x zero y at = inl at
pushed_at (z ∷ zs) x (suc k) y at = pushed_at zs x k y at

-- one bit more
pub pins_more : (N : NetlistView) (bits new : List Shown) (bit : Shown) → HavePins N bits → net_of N.ports bit.pin ≡ Some bit.net → new ≡ bits ++ bit ∷ [] → HavePins N new
pins_more N bits new bit have named is = rw is (record {
  each = λ k other at. elim (pushed_at bits bit k other at) [
    | inl before ↦ have.each k other before
    | inr same ↦ rw (← same) named
  ];
})

net_in : (found : Option PortView) (bit : ℕ) → slice_get (port_nets found) bit ≡ option_and_then (λ (port : PortView). slice_get port.nets bit) found
net_in None bit = refl
net_in (Some port) bit = refl

pub nets_more : (found : Option PortView) (place : ℕ) (bits old new : List Shown) (bit : Shown) → option_and_then (λ (port : PortView). slice_get port.nets place) found ≡ Some bit.net
    → map net_at bits ≡ map net_at old ++ take place (port_nets found) → new ≡ bits ++ bit ∷ [] → map net_at new ≡ map net_at old ++ take (place + 1) (port_nets found)
nets_more found place bits old new bit at so_far is =
    ap (λ (bs : List Shown). map net_at bs) is ∙ map_push net_at bits bit ∙ ap (λ (ns : List NetId). ns ++ bit.net ∷ []) so_far
    ∙ append_assoc (map net_at old) (take place (port_nets found)) (bit.net ∷ [])
    ∙ ap (λ (ns : List NetId). map net_at old ++ ns) (front_next (port_nets found) place bit.net (net_in found place ∙ at))

past : (xs : List PortView) (k : ℕ) → k < length xs → slice_get xs k ≡ None → ⊥
past [] k below at = omega arith
past (x ∷ xs) zero below at = let no : Some x ≡ None = at in cc
past (x ∷ xs) (suc k) below at = past xs k (omega arith) at

-- one port more
pub shown_next : (ports : List PortView) (place : ℕ) → place < length ports
    → flat_map (λ (port : PortView). shown_of port.dir port.nets) (take place ports) ++ shown_at (slice_get ports place) ≡ flat_map (λ (port : PortView). shown_of port.dir port.nets) (take (place + 1) ports)
shown_next ports place below = go (slice_get ports place) refl
  where
    go : (found : Option PortView) → slice_get ports place ≡ found → flat_map (λ (port : PortView). shown_of port.dir port.nets) (take place ports) ++ shown_at found
        ≡ flat_map (λ (port : PortView). shown_of port.dir port.nets) (take (place + 1) ports)
    go None at = absurd (past ports place below at)
    go (Some port) at =
        sym (flat_map-push (λ (p : PortView). shown_of p.dir p.nets) (take place ports) port)
        ∙ ap (λ (ps : List PortView). flat_map (λ (p : PortView). shown_of p.dir p.nets) ps) (front_next ports place port at)
