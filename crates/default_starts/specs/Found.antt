-- How the starts of hidden bits are found, net by net. Own.
use Rattle.std.specs.Prelude.{◌≡◌, ◌↔◌, ℕ, Bool, true, List, [], ◌∷◌, ◌++◌, length, slice_get, Some}
use Rattle.std.specs.Option.{option_map_or}
use Rattle.netlist_model.specs.declared.NetId.{NetId}
use Rattle.netlist_model.specs.declared.PinBit.{PinBit}
use Rattle.netlist_model.specs.Lists.{PortView}
use Rattle.netlist_link.specs.Linked.{LinkedView}
use Rattle.netlist_link.specs.WellNamed.{index_from}
use Rattle.scan_vectors.specs.declared.lines.Line.{Line}
use Rattle.scan_vectors.specs.Pins.{net_of, HasStart}
use Rattle.default_starts.specs.Starts.{HiddenBit, bit_word, port_name, hidden_bit, bits_of, AreStarts}

-- of each net, whether a start among the lines names a bit of it
pub record AreStarted (L : LinkedView) (lines : List Line) (flags : List Bool) : Type 0 where
  pub count : length flags ≡ length L.arena.lists.nets
  pub each : (pin : PinBit) (net : NetId) → net_of L.arena.lists pin ≡ Some net → (slice_get flags net.0 ≡ Some true) ↔ HasStart L lines pin

-- the word names the bit, as its port's name and its index
abbrev pub IsWordOf : LinkedView → PinBit → List ℕ → Type 0
IsWordOf L pin word = (port : PortView) → slice_get L.arena.lists.ports pin.port.0 ≡ Some port → word ≡ bit_word (port_name L port) (index_from port.range pin.bit)

-- the starts of these bits are added behind those of any others
abbrev pub AddsStarts : LinkedView → List Bool → List HiddenBit → List Line → List Line → Type 0
AddsStarts L flags bits old new = (lines : List Line) (before : List HiddenBit) → AreStarted L lines flags → AreStarts L lines before old → AreStarts L lines (before ++ bits) new

-- the start of this bit
abbrev pub AddsBit : LinkedView → List Bool → PinBit → List Line → List Line → Type 0
AddsBit L flags pin old new = (port : PortView) (net : NetId) → slice_get L.arena.lists.ports pin.port.0 ≡ Some port → net_of L.arena.lists pin ≡ Some net
    → AddsStarts L flags (hidden_bit L pin.port.0 port (pin.bit, net) ∷ []) old new

-- those of the bits of the port with this number
abbrev pub AddsPort : LinkedView → List Bool → ℕ → List Line → List Line → Type 0
AddsPort L flags number old new = AddsStarts L flags (option_map_or (bits_of L number) (slice_get L.arena.lists.ports number) []) old new
