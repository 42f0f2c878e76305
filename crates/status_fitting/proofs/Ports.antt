-- No word names the net of a port's bit.
use Rattle.std.proofs.Common.{◌≡◌, ℕ, List, slice_get, Option, Some, None, refl, sym, ◌∙◌}
use Rattle.std.specs.Prelude.{option_and_then}
use Rattle.netlist_model.specs.declared.Dir.{Dir}
use Rattle.netlist_model.specs.declared.NetId.{NetId}
use Rattle.netlist_model.specs.Lists.{PortView, NetlistView, bit_net, direction}
use Rattle.netlist_model.specs.Ports.{IsBitOf, BitHasDirection}
use Rattle.netlist_link.specs.Linked.{LinkedView}
use Rattle.status_fitting.specs.Wires.{NamesWire, scalar, vector}
use Rattle.status_fitting.specs.Laws.{WordsNameNoPorts}

port_there : (N : NetlistView) (number bit : ℕ) (net : NetId) → bit_net N number bit ≡ Some net → (dir : Dir) × IsBitOf N dir net
port_there N number bit net at = by (slice_get N.ports number) refl at
  where
    by : (o : Option PortView) → slice_get N.ports number ≡ o → option_and_then (λ (port : PortView). slice_get port.nets bit) o ≡ Some net → (dir : Dir) × IsBitOf N dir net
    by None e h = absurd (cc)
    by (Some port) e h = (port.dir, record { number = number; port = port; bit = bit; stands = e; has = h; same = refl })

wire_outside : (L : LinkedView) (word : List ℕ) (net : ℕ) → NamesWire L word net → direction L.arena.lists.ports net ≡ None
wire_outside L word net (scalar bit) = bit.bit.wire.outside
wire_outside L word net (vector other v) = v.bit.bit.wire.outside

pub no_port_named : BitHasDirection → WordsNameNoPorts
no_port_named has L word number bit net formed at named =
    let port = port_there L.arena.lists number bit net at in
    let side : direction L.arena.lists.ports net.0 ≡ Some port.0 = has L.arena.lists formed port.0 net port.1 in
    let none : None ≡ Some port.0 = sym (wire_outside L word net.0 named) ∙ side in
    absurd (cc)
