-- The run of a script on a linked netlist. Own.
use Rattle.std.specs.Prelude.{◌≡◌, ℕ, List, [], ◌∷◌, slice_get, Some, unwrap_or}
use Rattle.std.specs.Option.{option_map}
use Rattle.std.specs.List.{flat_map}
use Rattle.signal_values.specs.declared.Sig.TheVariants.{Unknown}
use Rattle.netlist_model.specs.declared.NetId.{NetId}
use Rattle.netlist_model.specs.declared.PinBit.{PinBit}
use Rattle.netlist_model.specs.Lists.{NetlistView, bit_net}
use Rattle.netlist_model.specs.Runs.{Moment, PinEvent, IsRun}
use Rattle.scan_vectors.specs.declared.lines.Act.{Act}
use Rattle.scan_vectors.specs.declared.lines.Act.TheVariants.{Start, Set, Expect}
use Rattle.scan_vectors.specs.declared.scripts.script.ScriptLine.{ScriptLine}

-- the number of a bit's net
abbrev pub net_number : NetlistView → PinBit → ℕ
net_number N pin = unwrap_or (option_map (λ (net : NetId). net.0) (bit_net N pin.port.0 pin.bit)) 0

-- the events of a line: a set is one
abbrev pub events_at : Act → PinEvent → List PinEvent
events_at Start event = []
events_at Set event = event ∷ []
events_at Expect event = []

abbrev pub event_of : NetlistView → ScriptLine → PinEvent
event_of N line = record { net = net_number N line.pin; value = line.value }

-- the events of a script, in order
abbrev pub events_of : NetlistView → List ScriptLine → List PinEvent
events_of N script = flat_map (λ (line : ScriptLine). events_at line.act (event_of N line)) script

-- the pins of the bits that have a start have its value
abbrev pub HasStarts : NetlistView → List ScriptLine → Moment → Type 0
HasStarts N script m = (place : ℕ) (line : ScriptLine) → slice_get script place ≡ Some line → line.act ≡ Start
    → m.pins (net_number N line.pin) ≡ line.value

-- A run from the starts by the sets, in which every flip-flop begins unknown.
pub record IsRunOf (N : NetlistView) (script : List ScriptLine) (moment : ℕ → Moment) : Type 0 where
  pub starts : HasStarts N script (moment 0)
  pub run : IsRun N (λ cell. Unknown) (events_of N script) moment
