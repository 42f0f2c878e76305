-- The bits of ports that event lines name, and the starts that came for them.
use Rattle.std.specs.Prelude.{◌≡◌, ℕ, true, List, slice_get, Option, Some}
use Rattle.std.specs.Option.{option_map}
use Rattle.netlist_model.specs.declared.Dir.{Dir}
use Rattle.netlist_model.specs.declared.NetId.{NetId}
use Rattle.netlist_model.specs.declared.PinBit.{PinBit}
use Rattle.netlist_model.specs.Lists.{PortView, NetlistView, bit_net}
use Rattle.netlist_model.specs.Settled.{follows_pin}
use Rattle.netlist_model.specs.Cones.{IsControlPort}
use Rattle.netlist_link.specs.Linked.{LinkedView}
use Rattle.netlist_link.specs.PinWords.{IsPinWord}
use Rattle.scan_vectors.specs.declared.lines.Act.TheVariants.{Start}
use Rattle.scan_vectors.specs.declared.lines.Line.{Line}
use Rattle.scan_vectors.specs.Grammar.{act_of, pin_of}

-- own: the word names the bit of a port of the linked netlist
abbrev pub Names : LinkedView → List ℕ → PinBit → Type 0
Names L word pin = IsPinWord L.names L.arena.lists word pin

-- own: the direction of a port
abbrev pub side_at : NetlistView → ℕ → Option Dir
side_at N number = option_map (λ (port : PortView). port.dir) (slice_get N.ports number)

-- own: the direction of the bit's port
abbrev pub side_of : NetlistView → PinBit → Option Dir
side_of N pin = side_at N pin.port.0

-- own: the bit's net
abbrev pub net_of : NetlistView → PinBit → Option NetId
net_of N pin = bit_net N pin.port.0 pin.bit

-- own: an input or inout bit
pub record TakesValue (N : NetlistView) (pin : PinBit) : Type 0 where
  pub net : NetId
  pub there : net_of N pin ≡ Some net
  pub side : follows_pin (side_of N pin) ≡ true

-- own: a control port
pub record IsControlBit (N : NetlistView) (pin : PinBit) : Type 0 where
  pub net : NetId
  pub there : net_of N pin ≡ Some net
  pub control : IsControlPort N net.0

-- own: one of the lines is a start of the bit; another word may name it there
pub record HasStart (L : LinkedView) (lines : List Line) (pin : PinBit) : Type 0 where
  pub place : ℕ
  pub line : Line
  pub there : slice_get lines place ≡ Some line
  pub start : act_of line ≡ Start
  pub named : Names L (pin_of line) pin
