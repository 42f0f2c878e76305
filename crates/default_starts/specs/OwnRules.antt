-- The rules on event lines where hidden input bits begin by themselves, and the line at which the first is broken. Own.
use Rattle.std.specs.Prelude.{◌≡◌, ◌≢◌, ℕ, ◌<◌, true, List, take, slice_get, Some}
use Rattle.netlist_model.specs.declared.Dir.TheVariants.{Input}
use Rattle.netlist_model.specs.declared.PinBit.{PinBit}
use Rattle.netlist_link.specs.Linked.{LinkedView, is_straight}
use Rattle.scan_vectors.specs.declared.lines.Act.TheVariants.{Start}
use Rattle.scan_vectors.specs.declared.lines.Line.{Line}
use Rattle.scan_vectors.specs.declared.lines.Lines.{Lines}
use Rattle.scan_vectors.specs.Grammar.{act_of}
use Rattle.scan_vectors.specs.Pins.{side_of, TakesValue, HasStart}
use Rattle.scan_vectors.specs.Rules.{NamesNothing, DrivesOutput, BlursControl, ExpectsInput, StartsAgain, StartsLate}

-- an input bit of a hidden port
pub record IsHiddenInput (L : LinkedView) (pin : PinBit) : Type 0 where
  pub hidden : is_straight L pin.port.0 ≡ true
  pub input : side_of L.arena.lists pin ≡ Some Input

-- one that no start among the lines names: it begins by itself
pub record BeginsItself (L : LinkedView) (lines : List Line) (pin : PinBit) : Type 0 where
  pub is : IsHiddenInput L pin
  pub none : HasStart L lines pin → ⊥

-- some other input or inout bit has no start among those lines that came
pub record WantsStart (L : LinkedView) (lines before : List Line) : Type 0 where
  pub pin : PinBit
  pub takes : TakesValue L.arena.lists pin
  pub own : BeginsItself L lines pin → ⊥
  pub none : HasStart L before pin → ⊥

-- the line is a set or an expect, and such a bit has no start yet
pub record RunsUnready (L : LinkedView) (lines before : List Line) (line : Line) : Type 0 where
  pub event : act_of line ≢ Start
  pub wants : WantsStart L lines before

-- the line, which stands behind these among the lines, breaks a rule
pub data BreaksOwnRule (L : LinkedView) (lines before : List Line) (line : Line) : Type 0 where
  unknown : NamesNothing L line → BreaksOwnRule L lines before line
  output : DrivesOutput L line → BreaksOwnRule L lines before line
  control : BlursControl L line → BreaksOwnRule L lines before line
  input : ExpectsInput L line → BreaksOwnRule L lines before line
  again : StartsAgain L before line → BreaksOwnRule L lines before line
  late : StartsLate before line → BreaksOwnRule L lines before line
  early : RunsUnready L lines before line → BreaksOwnRule L lines before line

-- the line at this place does
pub record IsOwnBroken (L : LinkedView) (lines : List Line) (place : ℕ) : Type 0 where
  pub line : Line
  pub there : slice_get lines place ≡ Some line
  pub rule : BreaksOwnRule L lines (take place lines) line

abbrev pub IsOwnUnbroken : LinkedView → List Line → Type 0
IsOwnUnbroken L lines = (place : ℕ) → IsOwnBroken L lines place → ⊥

-- it is the first that does
pub record IsFirstOwnBroken (L : LinkedView) (lines : List Line) (place : ℕ) : Type 0 where
  pub here : IsOwnBroken L lines place
  pub first : (earlier : ℕ) → earlier < place → IsOwnBroken L lines earlier → ⊥

-- the lines are illegal at the one with this number, which is the first that breaks a rule; or, where they end before
-- each bit that doesn't begin by itself has its start, at the line after the last
pub data AreOwnIllegalAt (L : LinkedView) (lines : Lines) : ℕ → Type 0 where
  broken : {place number : ℕ} → IsFirstOwnBroken L lines.list place → slice_get lines.numbers place ≡ Some number → AreOwnIllegalAt L lines number
  unstarted : IsOwnUnbroken L lines.list → WantsStart L lines.list lines.list → AreOwnIllegalAt L lines lines.end

-- the lines are legal: none breaks a rule, and each bit that doesn't begin by itself has its start
pub record AreOwnLegal (L : LinkedView) (lines : Lines) : Type 0 where
  pub unbroken : IsOwnUnbroken L lines.list
  pub started : (pin : PinBit) → TakesValue L.arena.lists pin → (BeginsItself L lines.list pin → ⊥) → HasStart L lines.list pin
