-- A netlist that keeps and realises, checked by the program of its device.
-- IEEE Std 1149.1-2001: test access port, the annex on BSDL; IEEE Std 1364-2001 for the netlist. Plans, programs and
-- reports are own.
use Rattle.std.specs.Prelude.{◌≡◌, ℕ, List, []}
use Rattle.verilog_tree.specs.declared.tree.Module.{Module}
use Rattle.verilog_tree.specs.IsTree.{IsTree}
use Rattle.cell_library.specs.declared.listed.ListedCell.{ListedCell}
use Rattle.cell_library.specs.Sound.{IsLibrary}
use Rattle.netlist_link.specs.Linked.{LinkedView}
use Rattle.netlist_link.specs.Links.{IsLinkOf}
use Rattle.bsdl_device.specs.declared.values.Device.{Device}
use Rattle.bsdl_device.specs.IsDevice.{IsDevice}
use Rattle.bsdl_device.specs.Spelled.{SpellsText as SpellsDeviceText}
use Rattle.scan_vectors.specs.declared.lines.Lines.{Lines}
use Rattle.scan_vectors.specs.Grammar.{SpellsLines}
use Rattle.scan_vectors.specs.declared.scripts.script.ScriptLine.{ScriptLine}
use Rattle.scan_vectors.specs.Rules.{AreLegal}
use Rattle.scan_vectors.specs.Scripts.{IsResolved}
use Rattle.scan_programs.specs.Program.{program_of}
use Rattle.conformance_report.specs.declared.verdict.Verdict.{Verdict}
use Rattle.conformance_report.specs.Agreement.{PortsAgree}
use Rattle.conformance_report.specs.Verdicts.{IsVerdict}
use Rattle.program_runs.specs.ScriptsLaws.{HasChip, IsProgramScript}
use Rattle.play_command.specs.Programs.{IsProgramText}
use Rattle.insertion_laws.specs.ChecksTexts.{IsRead, KeepsAndRealises, BelongTogether, SpellsProgram}

-- Netlists.

-- a link view that keeps and realises has the chip that its device makes of the core
abbrev pub NetlistsHaveChips : Type 0
NetlistsHaveChips = (tree : Module) (linked : LinkedView) (device : Device) → IsTree tree → IsLibrary linked.arena.lists.library → IsLinkOf tree linked → IsDevice device → (is : KeepsAndRealises linked device)
    → HasChip linked device is.core.arena.lists

-- Texts that belong together.

-- the text of a device's program spells that program
abbrev pub ProgramTextsSpellPrograms : Type 0
ProgramTextsSpellPrograms = (bsdl events : List ℕ) → IsProgramText bsdl events → SpellsProgram bsdl events

-- whatever is read of such texts has the chip
abbrev pub TextsHaveChips : Type 0
TextsHaveChips = (library : List ListedCell) (netlist bsdl : List ℕ) (are : BelongTogether library netlist bsdl) (linked : LinkedView) → IsRead library netlist linked
    → (device : Device) → SpellsDeviceText bsdl device → HasChip linked device are.chip.core.arena.lists

-- its ports are those that are described
abbrev pub TextsAgree : Type 0
TextsAgree = (library : List ListedCell) (netlist bsdl : List ℕ) → BelongTogether library netlist bsdl → (linked : LinkedView) → IsRead library netlist linked
    → (device : Device) → SpellsDeviceText bsdl device → PortsAgree linked device

-- the lines of the device's program are legal for it
abbrev pub ProgramsAreLegalThere : Type 0
ProgramsAreLegalThere = (library : List ListedCell) (netlist bsdl : List ℕ) → BelongTogether library netlist bsdl → (linked : LinkedView) → IsRead library netlist linked
    → (device : Device) → SpellsDeviceText bsdl device → (lines : Lines) → lines.list ≡ program_of device → AreLegal linked lines

-- no expectation of the device's program is missed
abbrev pub TextsMissNothing : Type 0
TextsMissNothing = (library : List ListedCell) (netlist bsdl : List ℕ) → BelongTogether library netlist bsdl → (linked : LinkedView) → IsRead library netlist linked
    → (device : Device) → SpellsDeviceText bsdl device → (script : List ScriptLine) → IsProgramScript linked device script
    → (verdict : Verdict) → IsVerdict linked.arena.lists script verdict → verdict.missed ≡ []

-- nor of any text of that program
abbrev pub WrittenProgramsMissNothing : Type 0
WrittenProgramsMissNothing = (library : List ListedCell) (netlist bsdl events : List ℕ) → BelongTogether library netlist bsdl → SpellsProgram bsdl events → (linked : LinkedView) → IsRead library netlist linked
    → (lines : Lines) → SpellsLines events lines → (script : List ScriptLine) → IsResolved linked lines script
    → (verdict : Verdict) → IsVerdict linked.arena.lists script verdict → verdict.missed ≡ []
