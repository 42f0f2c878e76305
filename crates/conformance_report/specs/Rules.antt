-- The rule of the test access port on event lines, and the line at which it or a rule on events is broken first.
-- IEEE Std 1149.1-2001: test access port; that it is a rule on event lines is own.
use Rattle.std.specs.Prelude.{◌≡◌, ◌≢◌, ℕ, ◌<◌, ◌⊎◌, List, slice_get, Some}
use Rattle.signal_values.specs.declared.PinSig.TheVariants.{Zero}
use Rattle.netlist_model.specs.Runs.{IsKnownPin}
use Rattle.netlist_link.specs.Linked.{LinkedView}
use Rattle.bsdl_device.specs.declared.values.DevPort.{DevPort}
use Rattle.bsdl_device.specs.declared.values.Device.{Device}
use Rattle.scan_vectors.specs.declared.lines.Act.TheVariants.{Start, Expect}
use Rattle.scan_vectors.specs.declared.lines.Line.{Line}
use Rattle.scan_vectors.specs.declared.lines.Lines.{Lines}
use Rattle.scan_vectors.specs.Grammar.{act_of, pin_of, value_of}
use Rattle.scan_vectors.specs.Rules.{IsBroken, LacksStart}
use Rattle.scan_vectors.specs.declared.scripts.fault.ScriptFault.{ScriptFault}
use Rattle.scan_vectors.specs.declared.scripts.fault.ScriptFault.TheVariants.{EventIllegal, OutOfMemory}

-- the word of the line is the name of the device's port at this place, byte for byte
pub record NamesPort (d : Device) (place : ℕ) (line : Line) : Type 0 where
  pub port : DevPort
  pub there : slice_get d.ports place ≡ Some port
  pub name : pin_of line ≡ port.name

-- it names an input of the test access port: TCK, TMS, TDI or TRST, each of which is scalar
abbrev pub NamesTapInput : Device → Line → Type 0
NamesTapInput d line = NamesPort d d.tck line ⊎ (NamesPort d d.tms line ⊎ (NamesPort d d.tdi line ⊎ NamesPort d d.trst line))

-- it is a start or a set, and gives an input of the test access port another value than 0 or 1
pub record BlursTap (d : Device) (line : Line) : Type 0 where
  pub named : NamesTapInput d line
  pub gives : act_of line ≢ Expect
  pub value : IsKnownPin (value_of line) → ⊥

-- it is a start, and gives TRST another value than 0
pub record StartsUnreset (d : Device) (line : Line) : Type 0 where
  pub named : NamesPort d d.trst line
  pub start : act_of line ≡ Start
  pub value : value_of line ≢ Zero

-- the line breaks the rule of the test access port
pub data BreaksTapRule (d : Device) (line : Line) : Type 0 where
  blurs : BlursTap d line → BreaksTapRule d line
  unreset : StartsUnreset d line → BreaksTapRule d line

-- own: the line at this place breaks it
pub record IsTapBroken (d : Device) (lines : List Line) (place : ℕ) : Type 0 where
  pub line : Line
  pub there : slice_get lines place ≡ Some line
  pub rule : BreaksTapRule d line

-- own: no line breaks it
abbrev pub KeepsTapRule : Device → List Line → Type 0
KeepsTapRule d lines = (place : ℕ) → IsTapBroken d lines place → ⊥

-- own: the line at this place breaks a rule on events, or that of the test access port
abbrev pub IsWrong : LinkedView → Device → List Line → ℕ → Type 0
IsWrong L d lines place = IsBroken L lines place ⊎ IsTapBroken d lines place

-- own: the first such line stands at this place
pub record IsFirstWrong (L : LinkedView) (d : Device) (lines : List Line) (place : ℕ) : Type 0 where
  pub here : IsWrong L d lines place
  pub first : (earlier : ℕ) → earlier < place → IsWrong L d lines earlier → ⊥

-- own: the lines are illegal at the one with this number, which is the first that is wrong; or, where none is and they
-- end before each input and inout bit has its start, at the line after the last
pub data IsIllegalAt (L : LinkedView) (d : Device) (lines : Lines) : ℕ → Type 0 where
  wrong : {place number : ℕ} → IsFirstWrong L d lines.list place → slice_get lines.numbers place ≡ Some number → IsIllegalAt L d lines number
  unstarted : ((place : ℕ) → IsWrong L d lines.list place → ⊥) → LacksStart L lines.list → IsIllegalAt L d lines lines.end

-- own: what a fault says of the lines; want of memory says nothing
abbrev pub IsLinesFault : LinkedView → Device → Lines → ScriptFault → Type 0
IsLinesFault L d lines (EventIllegal number) = IsIllegalAt L d lines number
IsLinesFault L d lines OutOfMemory = Unit {0}
