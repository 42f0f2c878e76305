-- The bit of a port that a word names.
use Rattle.std.proofs.Common.{◌≡◌, ℕ, ◌<◌, length, ap, sym, ◌∙◌, Some, None, arith, List}
use Rattle.std.specs.Prelude.{slice_get}
use Rattle.std.specs.Option.{option_map}
use Rattle.std.proofs.lemmas.Option.{same_Some, slice_get_within, option_and_then_some}
use Rattle.netlist_model.specs.declared.Dir.{Dir}
use Rattle.netlist_model.specs.declared.NetId.{NetId}
use Rattle.netlist_model.specs.declared.PinBit.{PinBit}
use Rattle.netlist_model.specs.Lists.{PortView, NetlistView, direction}
use Rattle.netlist_model.specs.Formed.{IsLaidOut, IsWellFormed}
use Rattle.netlist_model.specs.Ports.{BitHasDirection}
use Rattle.netlist_link.specs.PinWords.{IsPinWord, pin_at}
use Rattle.netlist_link.specs.PinWords.IsPinWord.{scalar, vector}
use Rattle.scan_vectors.specs.Pins.{net_of, side_of}
use Rattle.scan_vectors.proofs.Marked.{bit_there}

-- the port and the net are there
pub record IsThere (N : NetlistView) (pin : PinBit) : Type 0 where
  pub port : pin.port.0 < length N.ports
  pub net : NetId
  pub net_is : net_of N pin ≡ Some net

pub pin_there : (table : List (List ℕ)) (N : NetlistView) (word : List ℕ) (pin : PinBit) → IsLaidOut N → IsPinWord table N word pin → IsThere N pin
pin_there table N word pin laid (scalar {number = number} is) =
    let bit = bit_there N number None 0 laid (record { port = is.port; there = is.named.there; range_is = is.scalar }) (omega arith) in
    record { port = slice_get_within N.ports number is.port is.named.there; net = bit.0; net_is = bit.1 }
pin_there table N word pin laid (vector {number = number} {bit = bit} no_scalar is) =
    let here = is.of.indexed in
    let found = bit_there N number (Some here.range) bit laid (record { port = here.port; there = here.there; range_is = here.vector }) here.at.within in
    record { port = slice_get_within N.ports number here.port here.there; net = found.0; net_is = found.1 }

-- no other bit has the net
pub bit_alone : (N : NetlistView) (pin other : PinBit) (net : NetId) → IsWellFormed N → net_of N pin ≡ Some net → net_of N other ≡ Some net → other ≡ pin
bit_alone N pin other net formed one two =
    let same = formed.bits_apart other.port.0 pin.port.0 other.bit pin.bit net two one in
    ap (λ (p : ℕ). pin_at p other.bit) same.0 ∙ ap (λ (b : ℕ). pin_at pin.port.0 b) same.1

-- the net has the direction of the bit's port
pub bit_direction : (N : NetlistView) (pin : PinBit) (net : NetId) (side : Dir) → BitHasDirection → IsWellFormed N → net_of N pin ≡ Some net → side_of N pin ≡ Some side
    → direction N.ports net.0 ≡ Some side
bit_direction N pin net side law formed there side_is =
    option_and_then_some (λ (p : PortView). slice_get p.nets pin.bit) (slice_get N.ports pin.port.0) net there (λ port at has.
    law N formed side net (record {
      number = pin.port.0;
      port = port;
      bit = pin.bit;
      stands = at;
      has = has;
      same = same_Some port.dir side (ap (option_map (λ (p : PortView). p.dir)) (sym at) ∙ side_is);
    }))

-- a look-up gave this bit, and gives no other
pub only_found : (pin other : PinBit) → Some pin ≡ Some other → other ≡ pin
only_found pin other e = sym (same_Some pin other e)
