-- The program of a device, resolved on a linked netlist that realises the device's chip.
-- IEEE Std 1149.1-2001: test access port. Programs and scripts are own.
use Rattle.std.specs.Prelude.{◌≡◌, ℕ, true, List, [], ◌++◌, length, slice_get, Some}
use Rattle.signal_values.specs.declared.Sig.TheVariants.{Unknown}
use Rattle.netlist_model.specs.declared.PinBit.{PinBit}
use Rattle.netlist_model.specs.Lists.{NetlistView}
use Rattle.netlist_model.specs.Formed.{IsWellFormed}
use Rattle.netlist_model.specs.Runs.{Moment}
use Rattle.netlist_link.specs.Linked.{LinkedView, is_straight}
use Rattle.bsdl_device.specs.declared.values.Device.{Device}
use Rattle.wrapped_chip.specs.Suits.{Suits}
use Rattle.wrapped_chip.specs.Realises.{Realises}
use Rattle.scan_vectors.specs.declared.lines.Act.TheVariants.{Start}
use Rattle.scan_vectors.specs.declared.lines.Line.{Line}
use Rattle.scan_vectors.specs.declared.lines.Lines.{Lines}
use Rattle.scan_vectors.specs.declared.scripts.script.ScriptLine.{ScriptLine}
use Rattle.scan_vectors.specs.Grammar.{act_of, pin_of}
use Rattle.scan_vectors.specs.Pins.{Names, TakesValue, HasStart}
use Rattle.scan_vectors.specs.Rules.{IsUnbroken, AreLegal}
use Rattle.scan_vectors.specs.Scripts.{IsResolved}
use Rattle.scan_programs.specs.Program.{program_of}
use Rattle.program_runs.specs.Around.{StandsAround}
use Rattle.program_runs.specs.There.{IsProgramRunThere}
use Rattle.sim_runs.specs.Runs.{events_of, IsRunOf}
use Rattle.conformance_report.specs.declared.verdict.Verdict.{Verdict}
use Rattle.conformance_report.specs.Verdicts.{IsVerdict}
use Rattle.program_runs.specs.Beside.{IsDescribed, IsBeside}

-- own: these are starts of bits of hidden ports, of which a program says nothing. They break no rule, and each input
-- bit of a hidden port has one
pub record AreHiddenStarts (L : LinkedView) (starts : List Line) : Type 0 where
  pub are : (place : ℕ) (line : Line) → slice_get starts place ≡ Some line → act_of line ≡ Start
  pub hidden : (place : ℕ) (line : Line) (pin : PinBit) → slice_get starts place ≡ Some line → Names L (pin_of line) pin → is_straight L pin.port.0 ≡ true
  pub unbroken : IsUnbroken L starts
  pub all : (pin : PinBit) → is_straight L pin.port.0 ≡ true → TakesValue L.arena.lists pin → HasStart L starts pin

-- the script is what the lines of the device's program come to on the netlist, behind starts of hidden bits
pub record IsProgramScript (L : LinkedView) (B : Device) (script : List ScriptLine) : Type 0 where
  pub starts : List Line
  pub hidden : AreHiddenStarts L starts
  pub lines : Lines
  pub numbered : length lines.numbers ≡ length lines.list
  pub program : lines.list ≡ starts ++ program_of B
  pub resolved : IsResolved L lines script

-- those lines are legal for a netlist with the device's ports
abbrev pub ProgramsAreLegal : Type 0
ProgramsAreLegal = (L : LinkedView) (B : Device) → IsDescribed L B → (starts : List Line) → AreHiddenStarts L starts → (lines : Lines) → lines.list ≡ starts ++ program_of B → AreLegal L lines

-- a run of that script is one by the program
abbrev pub ScriptsRunThere : Type 0
ScriptsRunThere = (L : LinkedView) (B : Device) (N : NetlistView) → IsWellFormed N → IsBeside L B N → (script : List ScriptLine) → IsProgramScript L B script
    → (moment : ℕ → Moment) → IsRunOf L.arena.lists script moment → IsProgramRunThere L.arena.lists B N (λ cell. Unknown) (events_of L.arena.lists script) moment

-- the netlist has the ports of the chip that the device's cells make of N, and realises it
pub record HasChip (L : LinkedView) (B : Device) (N : NetlistView) : Type 0 where
  pub formed : IsWellFormed N
  pub suits : Suits B N
  pub around : StandsAround B N
  pub beside : IsBeside L B N
  pub realises : Realises L.arena.lists B N

-- so no expectation of the script is missed
abbrev pub ScriptsAreMet : Type 0
ScriptsAreMet = (L : LinkedView) (B : Device) (N : NetlistView) → HasChip L B N → (script : List ScriptLine) → IsProgramScript L B script
    → (verdict : Verdict) → IsVerdict L.arena.lists script verdict → verdict.missed ≡ []
