-- own: the bits of ports without a pin line, port by port.
use Rattle.std.specs.Prelude.{ℕ, List, [], slice_get, Option, None}
use Rattle.std.specs.Option.{option_map_or}
use Rattle.netlist_model.specs.declared.PinBit.{PinBit}
use Rattle.netlist_model.specs.Lists.{PortView}
use Rattle.netlist_link.specs.Linked.{LinkedView}
use Rattle.texts.specs.First.{first_in}
use Rattle.plan_fitting.specs.declared.fault.FitFault.{FitFault}
use Rattle.plan_fitting.specs.Pins.{PinSeen}
use Rattle.plan_fitting.specs.Names.{bits_of_port, port_bits, named_bit}
use Rattle.plan_fitting.specs.Fits.{bit_fault}

-- the word of a bit
abbrev pub word_at : LinkedView → PinBit → List ℕ
word_at L pin = option_map_or (λ (p : PortView). (named_bit L pin.port.0 p pin.bit).word) (slice_get L.arena.lists.ports pin.port.0) []

-- the first bit of the port that has no pin line
abbrev pub missing_at : LinkedView → List PinSeen → ℕ → Option FitFault
missing_at L seen number = option_map_or (λ (p : PortView). first_in (bit_fault seen) (bits_of_port L (number, p))) (slice_get L.arena.lists.ports number) None

-- the first bit that has no pin line
abbrev pub missing_among : LinkedView → List PinSeen → Option FitFault
missing_among L seen = first_in (bit_fault seen) (port_bits L)
