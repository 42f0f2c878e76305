-- How a script is played: its start, and what a line does.
use Rattle.std.specs.Prelude.{◌≡◌, ℕ, List, slice_get, Some, IsSome}
use Rattle.signal_values.specs.declared.Sig.TheVariants.{Unknown}
use Rattle.signal_values.specs.declared.PinSig.{PinSig}
use Rattle.netlist_model.specs.Lists.{PortView, NetlistView}
use Rattle.netlist_model.specs.Cones.{IsControlPort}
use Rattle.netlist_model.specs.Runs.{Moment, IsKnownPin, IsStart}
use Rattle.scan_vectors.specs.declared.lines.Act.{Act}
use Rattle.scan_vectors.specs.declared.lines.Act.TheVariants.{Start, Set, Expect}
use Rattle.scan_vectors.specs.declared.scripts.script.ScriptLine.{ScriptLine}
use Rattle.netlist_meaning.specs.declared.event.Event.{Event}
use Rattle.netlist_meaning.specs.Pins.{net_of, IsDrivenPin, SetsPin}
use Rattle.netlist_meaning.specs.Events.{IsLegalEvent, IsEventStep}
use Rattle.sim_runs.specs.Runs.{net_number, HasStarts}

-- own: the moment is a start by the script, where all flip-flops begin unknown
pub record IsFirst (N : NetlistView) (script : List ScriptLine) (m : Moment) : Type 0 where
  pub start : IsStart N (λ cell. Unknown) m
  pub starts : HasStarts N script m

-- own: control ports are 0 or 1
abbrev pub AreKnown : NetlistView → (ℕ → PinSig) → Type 0
AreKnown N pins = (net : ℕ) → IsControlPort N net → IsKnownPin (pins net)

-- own: the pins have what the starts give
abbrev pub HaveStarts : NetlistView → List ScriptLine → (ℕ → PinSig) → Type 0
HaveStarts N script pins = (place : ℕ) (line : ScriptLine) → slice_get script place ≡ Some line → line.act ≡ Start
    → pins (net_number N line.pin) ≡ line.value

-- own: a start is on a pin that takes a value
abbrev pub CanStart : Act → List PortView → ScriptLine → Type 0
CanStart Start ports line = IsDrivenPin ports line.pin
CanStart Set ports line = Unit {0}
CanStart Expect ports line = Unit {0}

-- own: a start gives its pin its value
abbrev pub TakesStart : Act → List PortView → ScriptLine → (ℕ → PinSig) → (ℕ → PinSig) → Type 0
TakesStart Start ports line old new = SetsPin ports line.pin line.value old new
TakesStart Set ports line old new = (net : ℕ) → new net ≡ old net
TakesStart Expect ports line old new = (net : ℕ) → new net ≡ old net

-- own: the event of a line
abbrev pub line_event : ScriptLine → Event
line_event line = record { pin = line.pin; value = line.value }

-- own: a set is a legal event, and an expectation is at a bit of a port
abbrev pub CanPlay : Act → NetlistView → ScriptLine → Type 0
CanPlay Start N line = Unit {0}
CanPlay Set N line = IsLegalEvent N (line_event line)
CanPlay Expect N line = IsSome (net_of N.ports line.pin)

-- own: a set steps, and other lines don't
abbrev pub Moves : Act → NetlistView → ScriptLine → Moment → Moment → Type 0
Moves Start N line before after = after ≡ before
Moves Set N line before after = IsEventStep N (line_event line) before after
Moves Expect N line before after = after ≡ before
