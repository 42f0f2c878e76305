-- Starts of the input bits of hidden ports that have none, in front of event lines. Own.
use Rattle.std.specs.Prelude.{◌≡◌, ℕ, ◌&&◌, Bool, true, false, List, [], ◌∷◌, ◌++◌, length, map, replicate, Option, Some, None, unwrap_or, if◌then◌else◌}
use Rattle.std.specs.Fmt.{decimal}
use Rattle.std.specs.List.{enumerate_from, flat_map}
use Rattle.signal_values.specs.declared.PinSig.{PinSig}
use Rattle.signal_values.specs.declared.PinSig.TheVariants.{Zero, Unknown}
use Rattle.netlist_model.specs.declared.Dir.{Dir}
use Rattle.netlist_model.specs.declared.Dir.TheVariants as dir
use Rattle.netlist_model.specs.declared.NetId.{NetId}
use Rattle.netlist_model.specs.declared.PinBit.{PinBit}
use Rattle.netlist_model.specs.Lists.{PortView, NetlistView}
use Rattle.netlist_model.specs.Cones.{IsControlPort}
use Rattle.link_model.specs.Denoted.{name_bytes}
use Rattle.netlist_link.specs.Linked.{LinkedView, is_straight}
use Rattle.netlist_link.specs.PinWords.{pin_at}
use Rattle.netlist_link.specs.WellNamed.{index_from}
use Rattle.scan_vectors.specs.declared.lines.Line.{Line}
use Rattle.scan_vectors.specs.declared.lines.Line.TheVariants.{Start}
use Rattle.scan_vectors.specs.declared.lines.Lines.{Lines}
use Rattle.scan_vectors.specs.Pins.{HasStart}

-- Input bits of hidden ports.

-- a bit of a port: its net, and the word that names it
pub record HiddenBit : Type 0 where
  pub pin : PinBit
  pub net : NetId
  pub word : List ℕ

-- the name, and the index in brackets where there is one
abbrev pub bit_word : List ℕ → Option ℕ → List ℕ
bit_word name None = name
bit_word name (Some index) = name ++ 91 ∷ decimal index ++ 93 ∷ []

abbrev pub port_name : LinkedView → PortView → List ℕ
port_name L port = unwrap_or (name_bytes L.names port.name) []

abbrev pub hidden_bit : LinkedView → ℕ → PortView → ℕ × NetId → HiddenBit
hidden_bit L number port row = record { pin = pin_at number row.0; net = row.1; word = bit_word (port_name L port) (index_from port.range row.0) }

-- the bits of the port with this number, from the left
abbrev pub bits_of : LinkedView → ℕ → PortView → List HiddenBit
bits_of L number port = map (hidden_bit L number port) (enumerate_from 0 port.nets)

abbrev pub is_input : Dir → Bool
is_input dir.Input = true
is_input dir.Output = false
is_input dir.Inout = false

-- the port is hidden, and an input
abbrev pub is_hidden_input : LinkedView → ℕ → PortView → Bool
is_hidden_input L number port = is_straight L number && is_input port.dir

-- its bits, if it is one
abbrev pub inputs_of : LinkedView → ℕ × PortView → List HiddenBit
inputs_of L row = if is_hidden_input L row.0 row.1 then bits_of L row.0 row.1 else []

-- the input bits of hidden ports, in the order of the ports
abbrev pub hidden_inputs : LinkedView → List HiddenBit
hidden_inputs L = flat_map (inputs_of L) (enumerate_from 0 L.arena.lists.ports)

-- Their starts.

-- a bit of a control port begins at 0, another at x
pub data BeginsAt (N : NetlistView) (net : ℕ) : PinSig → Type 0 where
  control : IsControlPort N net → BeginsAt N net Zero
  plain : (IsControlPort N net → ⊥) → BeginsAt N net Unknown

-- the starts of those bits that no start among the lines names, in this order. A start that stands too late names its
-- bit too, and so does another word for it
pub data AreStarts (L : LinkedView) (lines : List Line) : List HiddenBit → List Line → Type 0 where
  none : AreStarts L lines [] []
  had : {bit : HiddenBit} {bits : List HiddenBit} {starts : List Line} → HasStart L lines bit.pin → AreStarts L lines bits starts → AreStarts L lines (bit ∷ bits) starts
  added : {bit : HiddenBit} {bits : List HiddenBit} {starts : List Line} {value : PinSig} → (HasStart L lines bit.pin → ⊥) → BeginsAt L.arena.lists bit.net.0 value
      → AreStarts L lines bits starts → AreStarts L lines (bit ∷ bits) (Start bit.word value ∷ starts)

abbrev pub AreDefaultStarts : LinkedView → List Line → List Line → Type 0
AreDefaultStarts L lines starts = AreStarts L lines (hidden_inputs L) starts

-- the lines behind those starts, which have the number 0
pub record IsWithStarts (L : LinkedView) (lines new : Lines) : Type 0 where
  pub starts : List Line
  pub are : AreDefaultStarts L lines.list starts
  pub list_is : new.list ≡ starts ++ lines.list
  pub numbers_are : new.numbers ≡ replicate (length starts) 0 ++ lines.numbers
  pub end_is : new.end ≡ lines.end
