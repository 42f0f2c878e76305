-- The nets that registers capture.
use Rattle.std.proofs.Common.{◌≡◌, ℕ, ◌+◌, ◌<◌, ◌==◌, ◌&&◌, Bool, true, false, List, [], ◌∷◌, length, Option, Some, None, refl, ap, sym, ◌∙◌, eqb-true}
use Rattle.std.specs.Prelude.{slice_get, option_and_then, if◌then◌else◌}
use Rattle.std.proofs.lemmas.Option.{slice_get_within}
use Rattle.netlist_model.specs.declared.Dir.{Dir}
use Rattle.netlist_model.specs.declared.NetId.{NetId}
use Rattle.netlist_model.specs.declared.PinBit.{PinBit}
use Rattle.netlist_model.specs.Lists.{PortView, NetlistView, direction}
use Rattle.netlist_model.specs.Settled.{is_output}
use Rattle.netlist_model.specs.Formed.{IsWellFormed}
use Rattle.netlist_model.specs.Ports.{BitHasDirection}
use Rattle.netlist_link.specs.Linked.{LinkedView}
use Rattle.plan_fitting.specs.declared.fitted.FitRow.{FitRow}
use Rattle.plan_fitting.specs.declared.fitted.Fitted.{Fitted}
use Rattle.stitched_netlist.specs.Sites.{Boundary, pin_net, row_net, site_of, row_sides}
use Rattle.stitched_netlist.specs.Sides.{is_moved, moves, side_from, core_side}
use Rattle.stitched_netlist.specs.Stitched.{boundary_at}
use Rattle.status_fitting.specs.Wires.{IsWireAt, NamesWire, scalar, vector, NamesDriven}
use Rattle.status_room.specs.Needed.{IsCaptured}

-- A net that is no port's stays.

and_false : (a b : Bool) → b ≡ false → (a && b) ≡ false
and_false true b e = e
and_false false b e = refl

not_output : BitHasDirection → (N : NetlistView) → IsWellFormed N → (net : ℕ) → direction N.ports net ≡ None → (pin : Option PinBit)
    → is_output (option_and_then (pin_net N.ports) pin) net ≡ false
not_output has N formed net none None = refl
not_output has N formed net none (Some pin) = by_port (slice_get N.ports pin.port.0) refl
  where
    by_id : (port : PortView) → slice_get N.ports pin.port.0 ≡ Some port → (id : NetId) → slice_get port.nets pin.bit ≡ Some id → (b : Bool) → (id.0 == net) ≡ b → b ≡ false
    by_id port stands id at false e = refl
    by_id port stands id at true e =
        let same : id.0 ≡ net = eqb-true id.0 net e in
        let there : direction N.ports id.0 ≡ Some port.dir = has N formed port.dir id (record { number = pin.port.0; port = port; bit = pin.bit; stands = stands; has = at; same = refl }) in
        absurd (let bad : ◌≡◌ {A = Option Dir} None (Some port.dir) = sym none ∙ ap (λ (n : ℕ). direction N.ports n) (sym same) ∙ there in cc)

    by_bit : (port : PortView) → slice_get N.ports pin.port.0 ≡ Some port → (o : Option NetId) → slice_get port.nets pin.bit ≡ o → is_output o net ≡ false
    by_bit port stands None at = refl
    by_bit port stands (Some id) at = by_id port stands id at (id.0 == net) refl

    by_port : (o : Option PortView) → slice_get N.ports pin.port.0 ≡ o → is_output (option_and_then (λ (port : PortView). slice_get port.nets pin.bit) o) net ≡ false
    by_port None e = refl
    by_port (Some port) e = by_bit port e (slice_get port.nets pin.bit) refl

stays_from : BitHasDirection → (N : NetlistView) → IsWellFormed N → (net : ℕ) → direction N.ports net ≡ None → (side : ℕ) (rows : List FitRow) → side_from N.ports net side rows ≡ net
stays_from has N formed net none side [] = refl
stays_from has N formed net none side (row ∷ rows) =
    let here : moves N.ports net row ≡ false = and_false (is_moved (site_of N.ports row)) (is_output (row_net N.ports row) net) (not_output has N formed net none row.pin) in
    ap (λ (b : Bool). if b then side else side_from N.ports net (side + row_sides N.ports row) rows) here ∙ stays_from has N formed net none (side + row_sides N.ports row) rows

wire_stays : BitHasDirection → (N : NetlistView) (f : Fitted) → IsWellFormed N → (net : ℕ) → direction N.ports net ≡ None → core_side (boundary_at N f) net ≡ net
wire_stays has N f formed net none = let B : Boundary = boundary_at N f in stays_from has N formed net none B.first B.rows

-- What a word names.

wire_at : (N : NetlistView) (number : ℕ) (index : Option ℕ) (net : ℕ) → IsWireAt N number index net → (net < length N.nets) × (direction N.ports net ≡ None)
wire_at N number index net is = (slice_get_within N.nets net is.wire.view is.wire.there, is.wire.outside)

named_wire : (L : LinkedView) (word : List ℕ) (net : ℕ) → NamesWire L word net → (net < length L.arena.lists.nets) × (direction L.arena.lists.ports net ≡ None)
named_wire L word net (scalar bit) = wire_at L.arena.lists bit.number None net bit.bit
named_wire L word net (vector none is) = wire_at L.arena.lists is.bit.number (Some is.index) net is.bit.bit

pub captured : BitHasDirection → (L : LinkedView) (f : Fitted) → IsWellFormed L.arena.lists → (word : List ℕ) (net : ℕ) → NamesDriven L word net → IsCaptured L.arena.lists f net
captured has L f formed word net named =
    let wire = named_wire L word net named.named in
    record { low = wire.0; wire = wire.1; driven = named.driven; stays = wire_stays has L.arena.lists f formed net wire.1 }
