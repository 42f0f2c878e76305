-- Scripts, and what is told where lines are none.
use Rattle.std.specs.Prelude.{◌≡◌, ◌≢◌, ℕ, ◌<◌, List, length, slice_get, Some, IsSome}
use Rattle.netlist_model.specs.declared.Dir.TheVariants.{Input, Output}
use Rattle.netlist_model.specs.declared.NetId.{NetId}
use Rattle.netlist_model.specs.declared.PinBit.{PinBit}
use Rattle.netlist_model.specs.Lists.{NetlistView}
use Rattle.netlist_model.specs.Runs.{IsLegal}
use Rattle.netlist_link.specs.Linked.{LinkedView}
use Rattle.scan_vectors.specs.declared.lines.Act.TheVariants.{Start, Expect}
use Rattle.scan_vectors.specs.declared.lines.Line.{Line}
use Rattle.scan_vectors.specs.declared.lines.Lines.{Lines}
use Rattle.scan_vectors.specs.Grammar.{act_of, pin_of, value_of, SpellsLines}
use Rattle.scan_vectors.specs.declared.scripts.script.ScriptLine.{ScriptLine}
use Rattle.scan_vectors.specs.declared.scripts.fault.ScriptFault.{ScriptFault}
use Rattle.scan_vectors.specs.declared.scripts.fault.ScriptFault.TheVariants.{EventIllegal, OutOfMemory}
use Rattle.scan_vectors.specs.Pins.{Names, side_of, net_of, TakesValue}
use Rattle.scan_vectors.specs.Rules.{AreLegal, AreIllegalAt}

-- own: some bytes spell these lines, with their numbers and their end
pub record IsSpelled (lines : Lines) : Type 0 where
  pub bytes : List ℕ
  pub spells : SpellsLines bytes lines

-- own: each line has a number
abbrev pub HaveNumbers : Lines → Type 0
HaveNumbers lines = length lines.numbers ≡ length lines.list

-- own: this is the line with its pin found, and its number
pub record IsFound (L : LinkedView) (line : Line) (number : ℕ) (found : ScriptLine) : Type 0 where
  pub act : found.act ≡ act_of line
  pub pin : Names L (pin_of line) found.pin
  pub value : found.value ≡ value_of line
  pub number_is : found.number ≡ number

-- own: these are the same lines in order with their pins found
pub record IsScriptOf (L : LinkedView) (lines : Lines) (script : List ScriptLine) : Type 0 where
  pub count : length script ≡ length lines.list
  pub each : (place : ℕ) (line : Line) (number : ℕ) (found : ScriptLine) → slice_get lines.list place ≡ Some line
      → slice_get lines.numbers place ≡ Some number → slice_get script place ≡ Some found → IsFound L line number found

-- own: the line at this place is a start of the bit
pub record IsStartAt (script : List ScriptLine) (place : ℕ) (pin : PinBit) : Type 0 where
  pub line : ScriptLine
  pub there : slice_get script place ≡ Some line
  pub start : line.act ≡ Start
  pub pin_is : line.pin ≡ pin

-- own: a netlist can run the script
pub record IsPlayable (N : NetlistView) (script : List ScriptLine) : Type 0 where
  -- each line names a bit of a port
  pub there : (place : ℕ) (line : ScriptLine) → slice_get script place ≡ Some line → IsSome (net_of N line.pin)
  -- the starts come first
  pub starts_first : (start place : ℕ) (pin : PinBit) (line : ScriptLine) → IsStartAt script start pin
      → slice_get script place ≡ Some line → line.act ≢ Start → start < place
  -- they name each input and inout bit, and none twice
  pub each_started : (pin : PinBit) → TakesValue N pin → (place : ℕ) × IsStartAt script place pin
  pub once : (start other : ℕ) (pin : PinBit) → IsStartAt script start pin → IsStartAt script other pin → start ≡ other
  -- each start or set is a legal event: it names an input or inout bit, and a control port takes 0 or 1 alone
  pub legal : (place : ℕ) (line : ScriptLine) (net : NetId) → slice_get script place ≡ Some line → line.act ≢ Expect
      → net_of N line.pin ≡ Some net → IsLegal N (record { net = net.0; value = line.value })
  -- no start or set names an output, and no expect names an input
  pub outputs : (place : ℕ) (line : ScriptLine) → slice_get script place ≡ Some line → line.act ≢ Expect → side_of N line.pin ≢ Some Output
  pub inputs : (place : ℕ) (line : ScriptLine) → slice_get script place ≡ Some line → line.act ≡ Expect → side_of N line.pin ≢ Some Input

-- own: no rule is broken, and this is the script of the lines
pub record IsResolved (L : LinkedView) (lines : Lines) (script : List ScriptLine) : Type 0 where
  pub legal : AreLegal L lines
  pub same : IsScriptOf L lines script
  pub playable : IsPlayable L.arena.lists script

-- own: what a fault says of the lines; want of memory says nothing
abbrev pub IsScriptFault : LinkedView → Lines → ScriptFault → Type 0
IsScriptFault L lines (EventIllegal number) = AreIllegalAt L lines number
IsScriptFault L lines OutOfMemory = Unit {0}
