-- Netlists that extend the stitched one.
use Rattle.std.proofs.Common.{◌≡◌, ℕ, ◌+◌, ◌==◌, ◌&&◌, Bool, true, false, List, [], ◌∷◌, length, Option, Some, None, refl, ap, sym, ◌∙◌, eqb-true}
use Rattle.std.specs.Prelude.{slice_get, option_and_then, if◌then◌else◌}
use Rattle.netlist_model.specs.declared.NetId.{NetId}
use Rattle.netlist_model.specs.declared.PinBit.{PinBit}
use Rattle.netlist_model.specs.Lists.{PortView, NetlistView, bit_net, direction}
use Rattle.netlist_model.specs.Settled.{is_output}
use Rattle.netlist_model.specs.Formed.{IsWellFormed}
use Rattle.netlist_model.specs.Ports.{BitHasDirection}
use Rattle.wrapped_chip.specs.Realises.{SameBit, tap_place}
use Rattle.plan_fitting.specs.declared.fitted.FitRow.{FitRow}
use Rattle.plan_fitting.specs.Devices.{fitted_of, device_of}
use Rattle.surrounded_core.specs.Open.{SurroundedFollows}
use Rattle.stitched_netlist.specs.Sites.{Boundary, pin_net, row_net, site_of, row_sides}
use Rattle.stitched_netlist.specs.Sides.{is_moved, moves, side_from}
use Rattle.stitched_netlist.specs.Stitched.{boundary_at}
use Rattle.stitched_netlist.specs.Places.{ExtensionIsBuiltIn}
use Rattle.stitched_netlist.specs.InsidePlaces.{places_in}
use Rattle.stitched_netlist.specs.InsideLaws.{BuiltInSurrounds}
use Rattle.stitched_netlist.proofs.Nests.{inner_given, given_by_driver}
use Rattle.open_stitch.specs.RunsLaws.{OpenNetlistsFollow, DrivenWiresStay, PinsByPorts}

pub open_netlists_follow : ExtensionIsBuiltIn → BuiltInSurrounds → SurroundedFollows → OpenNetlistsFollow
open_netlists_follow built around follows L p seen names M shown fits laid dense extends formed pins given events chip moment run beside =
    follows M L.arena.lists (device_of L p seen) (places_in M L.arena.lists (fitted_of L p seen)) shown
    (around L p seen names M shown fits laid (built M L.arena.lists names (fitted_of L p seen) shown dense extends) formed pins) given events chip moment run beside

-- A net that is no port's stays.

and_false : (a b : Bool) → b ≡ false → (a && b) ≡ false
and_false true b e = e
and_false false b e = refl

not_output : BitHasDirection → (N : NetlistView) → IsWellFormed N → (net : ℕ) → direction N.ports net ≡ None → (pin : Option PinBit)
    → is_output (option_and_then (pin_net N.ports) pin) net ≡ false
not_output has N formed net none None = refl
not_output has N formed net none (Some pin) = by_port (slice_get N.ports pin.port.0) refl
  where
    by_id : (port : PortView) → slice_get N.ports pin.port.0 ≡ Some port → (id : NetId) → slice_get port.nets pin.bit ≡ Some id → (b : Bool) → (id.0 == net) ≡ b → b ≡ false
    by_id port stands id at false e = refl
    by_id port stands id at true e =
        let same : id.0 ≡ net = eqb-true id.0 net e in
        let there : direction N.ports id.0 ≡ Some port.dir = has N formed port.dir id (record { number = pin.port.0; port = port; bit = pin.bit; stands = stands; has = at; same = refl }) in
        absurd (let bad : None ≡ Some port.dir = sym none ∙ ap (λ (n : ℕ). direction N.ports n) (sym same) ∙ there in cc)

    by_bit : (port : PortView) → slice_get N.ports pin.port.0 ≡ Some port → (o : Option NetId) → slice_get port.nets pin.bit ≡ o → is_output o net ≡ false
    by_bit port stands None at = refl
    by_bit port stands (Some id) at = by_id port stands id at (id.0 == net) refl

    by_port : (o : Option PortView) → slice_get N.ports pin.port.0 ≡ o → is_output (option_and_then (λ (port : PortView). slice_get port.nets pin.bit) o) net ≡ false
    by_port None e = refl
    by_port (Some port) e = by_bit port e (slice_get port.nets pin.bit) refl

stays : BitHasDirection → (N : NetlistView) → IsWellFormed N → (net : ℕ) → direction N.ports net ≡ None → (side : ℕ) (rows : List FitRow) → side_from N.ports net side rows ≡ net
stays has N formed net none side [] = refl
stays has N formed net none side (row ∷ rows) =
    let here : moves N.ports net row ≡ false = and_false (is_moved (site_of N.ports row)) (is_output (row_net N.ports row) net) (not_output has N formed net none row.pin) in
    ap (λ (b : Bool). if b then side else side_from N.ports net (side + row_sides N.ports row) rows) here ∙ stays has N formed net none (side + row_sides N.ports row) rows

pub driven_wires_stay : BitHasDirection → DrivenWiresStay
driven_wires_stay has L p seen names M shown fits extends net cell none driver plain =
    let N = L.arena.lists in
    let B : Boundary = boundary_at N (fitted_of L p seen) in record {
      inside = none;
      cell = cell;
      driver = driver;
      plain = plain;
      stays = inner_given N M B net (given_by_driver N net cell driver) ∙ stays has N fits.formed net none B.first B.rows;
    }

-- Pins by ports.

bit_same : (M O : NetlistView) → M.ports ≡ O.ports → (port place : ℕ) → bit_net M port place ≡ bit_net O port place
bit_same M O e port place = ap (λ (ps : List PortView). option_and_then (λ (q : PortView). slice_get q.nets place) (slice_get ps port)) e

same_to : (M O N : NetlistView) → M.ports ≡ O.ports → (net other : ℕ) → SameBit O N net other → SameBit M N net other
same_to M O N e net other s = record { port = s.port; place = s.place; here = s.here; there = bit_same M O e s.port s.place ∙ s.there }

pub pins_by_ports : PinsByPorts
pins_by_ports M O N e has = record {
  there = has.there;
  tap = has.tap;
  back = has.back;
  bits = λ net g. same_to M O N e net (has.there net) (has.bits net g);
  bits_once = λ net other s g. has.bits_once net other (same_to O M N (sym e) net other s) g;
  bits_apart = has.bits_apart;
  taps = λ input. bit_same M O e (length N.ports + tap_place input) 0 ∙ has.taps input;
  taps_once = λ input other at. has.taps_once input other (sym (bit_same M O e (length N.ports + tap_place input) 0) ∙ at);
  taps_apart = has.taps_apart;
}
