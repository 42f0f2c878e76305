-- The rules on event lines, and the line at which the first is broken.
use Rattle.std.specs.Prelude.{◌≡◌, ◌≢◌, ℕ, ◌<◌, List, take, slice_get, Some}
use Rattle.netlist_model.specs.declared.Dir.TheVariants.{Input, Output}
use Rattle.netlist_model.specs.declared.PinBit.{PinBit}
use Rattle.netlist_model.specs.Runs.{IsKnownPin}
use Rattle.netlist_link.specs.Linked.{LinkedView}
use Rattle.scan_vectors.specs.declared.lines.Act.TheVariants.{Start, Expect}
use Rattle.scan_vectors.specs.declared.lines.Line.{Line}
use Rattle.scan_vectors.specs.declared.lines.Lines.{Lines}
use Rattle.scan_vectors.specs.Grammar.{act_of, pin_of, value_of}
use Rattle.scan_vectors.specs.Pins.{Names, side_of, TakesValue, IsControlBit, HasStart}

-- own: its pin is unknown
abbrev pub NamesNothing : LinkedView → Line → Type 0
NamesNothing L line = (pin : PinBit) → Names L (pin_of line) pin → ⊥

-- own: it is a start or a set, and names an output
pub record DrivesOutput (L : LinkedView) (line : Line) : Type 0 where
  pub pin : PinBit
  pub named : Names L (pin_of line) pin
  pub gives : act_of line ≢ Expect
  pub output : side_of L.arena.lists pin ≡ Some Output

-- own: it gives a control port another value than 0 or 1
pub record BlursControl (L : LinkedView) (line : Line) : Type 0 where
  pub pin : PinBit
  pub named : Names L (pin_of line) pin
  pub gives : act_of line ≢ Expect
  pub control : IsControlBit L.arena.lists pin
  pub value : IsKnownPin (value_of line) → ⊥

-- own: it is an expect, and names an input
pub record ExpectsInput (L : LinkedView) (line : Line) : Type 0 where
  pub pin : PinBit
  pub named : Names L (pin_of line) pin
  pub expects : act_of line ≡ Expect
  pub input : side_of L.arena.lists pin ≡ Some Input

-- own: it is a start for a pin that had its start
pub record StartsAgain (L : LinkedView) (before : List Line) (line : Line) : Type 0 where
  pub pin : PinBit
  pub named : Names L (pin_of line) pin
  pub start : act_of line ≡ Start
  pub had : HasStart L before pin

-- own: a set or an expect is among the lines
pub record HasEvent (lines : List Line) : Type 0 where
  pub place : ℕ
  pub line : Line
  pub there : slice_get lines place ≡ Some line
  pub event : act_of line ≢ Start

-- own: it is a start after a set or an expect
pub record StartsLate (before : List Line) (line : Line) : Type 0 where
  pub start : act_of line ≡ Start
  pub late : HasEvent before

-- own: some input or inout bit has no start among the lines
pub record LacksStart (L : LinkedView) (lines : List Line) : Type 0 where
  pub pin : PinBit
  pub takes : TakesValue L.arena.lists pin
  pub none : HasStart L lines pin → ⊥

-- own: it is a set or an expect, and some input or inout bit has no start yet
pub record RunsEarly (L : LinkedView) (before : List Line) (line : Line) : Type 0 where
  pub event : act_of line ≢ Start
  pub lacks : LacksStart L before

-- own: the line behind these breaks a rule
pub data BreaksRule (L : LinkedView) (before : List Line) (line : Line) : Type 0 where
  unknown : NamesNothing L line → BreaksRule L before line
  output : DrivesOutput L line → BreaksRule L before line
  control : BlursControl L line → BreaksRule L before line
  input : ExpectsInput L line → BreaksRule L before line
  again : StartsAgain L before line → BreaksRule L before line
  late : StartsLate before line → BreaksRule L before line
  early : RunsEarly L before line → BreaksRule L before line

-- own: the line at this place breaks a rule
pub record IsBroken (L : LinkedView) (lines : List Line) (place : ℕ) : Type 0 where
  pub line : Line
  pub there : slice_get lines place ≡ Some line
  pub rule : BreaksRule L (take place lines) line

-- own: no line breaks a rule
abbrev pub IsUnbroken : LinkedView → List Line → Type 0
IsUnbroken L lines = (place : ℕ) → IsBroken L lines place → ⊥

-- own: the first line that breaks a rule stands at this place
pub record IsFirstBroken (L : LinkedView) (lines : List Line) (place : ℕ) : Type 0 where
  pub here : IsBroken L lines place
  pub first : (earlier : ℕ) → earlier < place → IsBroken L lines earlier → ⊥

-- own: the lines are illegal at the one with this number, which is the first that breaks a rule; or, where they end
-- before each input and inout bit has its start, at the line after the last
pub data AreIllegalAt (L : LinkedView) (lines : Lines) : ℕ → Type 0 where
  broken : {place number : ℕ} → IsFirstBroken L lines.list place → slice_get lines.numbers place ≡ Some number → AreIllegalAt L lines number
  unstarted : IsUnbroken L lines.list → LacksStart L lines.list → AreIllegalAt L lines lines.end

-- own: the lines are legal: none breaks a rule, and each input and inout bit has its start
pub record AreLegal (L : LinkedView) (lines : Lines) : Type 0 where
  pub unbroken : IsUnbroken L lines.list
  pub started : (pin : PinBit) → TakesValue L.arena.lists pin → HasStart L lines.list pin
