-- A netlist that was read is as one in which nothing is hidden: what is asked of event lines says nothing of hidden ports.
use Rattle.std.proofs.Common.{◌≡◌, ℕ, List, [], length, refl}
use Rattle.verilog_tree.specs.declared.tree.Module.{Module}
use Rattle.verilog_tree.specs.Texts.{SpellsText}
use Rattle.cell_library.specs.declared.listed.ListedCell.{ListedCell}
use Rattle.cell_library.specs.Sound.{IsLibrary}
use Rattle.netlist_model.specs.declared.PinBit.{PinBit}
use Rattle.netlist_link.specs.Linked.{LinkedView}
use Rattle.netlist_link.specs.Links.{IsLinkOf}
use Rattle.scan_vectors.specs.declared.lines.Line.{Line}
use Rattle.scan_vectors.specs.declared.lines.Lines.{Lines}
use Rattle.scan_vectors.specs.declared.scripts.script.ScriptLine.{ScriptLine}
use Rattle.scan_vectors.specs.Grammar.{SpellsLines}
use Rattle.scan_vectors.specs.Pins.{HasStart}
use Rattle.scan_vectors.specs.Rules.{LacksStart, BreaksRule, IsBroken, AreLegal}
use Rattle.scan_vectors.specs.Rules.BreaksRule.{unknown, output, control, input, again, late, early}
use Rattle.scan_vectors.specs.Scripts.{IsFound, IsScriptOf, IsResolved}
use Rattle.conformance_report.specs.declared.verdict.Verdict.{Verdict}
use Rattle.conformance_report.specs.Verdicts.{IsVerdict}
use Rattle.insertion_laws.specs.ChecksTexts.{BelongTogether, SpellsProgram}
use Rattle.insertion_laws.specs.ChecksLaws.{WrittenProgramsMissNothing}

-- the same netlist, in which nothing is hidden
abbrev bare : LinkedView → LinkedView
bare L = record L { straight = record { first = length L.arena.lists.ports; count = 0 }; inner = 0; rails = [] }

start_there : (L : LinkedView) (lines : List Line) (pin : PinBit) → HasStart L lines pin → HasStart (bare L) lines pin
start_there L lines pin s = record { place = s.place; line = s.line; there = s.there; start = s.start; named = s.named }

start_here : (L : LinkedView) (lines : List Line) (pin : PinBit) → HasStart (bare L) lines pin → HasStart L lines pin
start_here L lines pin s = record { place = s.place; line = s.line; there = s.there; start = s.start; named = s.named }

lacks_here : (L : LinkedView) (lines : List Line) → LacksStart (bare L) lines → LacksStart L lines
lacks_here L lines l = record { pin = l.pin; takes = l.takes; none = λ s. l.none (start_there L lines l.pin s) }

breaks_here : (L : LinkedView) (before : List Line) (line : Line) → BreaksRule (bare L) before line → BreaksRule L before line
breaks_here L before line (unknown none) = unknown none
breaks_here L before line (output d) = output (record { pin = d.pin; named = d.named; gives = d.gives; output = d.output })
breaks_here L before line (control b) = control (record { pin = b.pin; named = b.named; gives = b.gives; control = b.control; value = b.value })
breaks_here L before line (input e) = input (record { pin = e.pin; named = e.named; expects = e.expects; input = e.input })
breaks_here L before line (again s) = again (record { pin = s.pin; named = s.named; start = s.start; had = start_here L before s.pin s.had })
breaks_here L before line (late s) = late s
breaks_here L before line (early r) = early (record { event = r.event; lacks = lacks_here L before r.lacks })

broken_here : (L : LinkedView) (lines : List Line) (place : ℕ) → IsBroken (bare L) lines place → IsBroken L lines place
broken_here L lines place b = record { line = b.line; there = b.there; rule = breaks_here L _ b.line b.rule }

legal_there : (L : LinkedView) (lines : Lines) → AreLegal L lines → AreLegal (bare L) lines
legal_there L lines legal = record {
  unbroken = λ place b. legal.unbroken place (broken_here L lines.list place b);
  started = λ pin takes. start_there L lines.list pin (legal.started pin takes);
}

found_there : (L : LinkedView) (line : Line) (number : ℕ) (found : ScriptLine) → IsFound L line number found → IsFound (bare L) line number found
found_there L line number found is = record { act = is.act; pin = is.pin; value = is.value; number_is = is.number_is }

script_there : (L : LinkedView) (lines : Lines) (script : List ScriptLine) → IsScriptOf L lines script → IsScriptOf (bare L) lines script
script_there L lines script is = record {
  count = is.count;
  each = λ place line number found here numbered told. found_there L line number found (is.each place line number found here numbered told);
}

links_there : (m : Module) (L : LinkedView) → IsLinkOf m L → IsLinkOf m (bare L)
links_there m L is = record { linkable = is.linkable; denoted = is.denoted; names = is.names; title = is.title; dense = is.dense }

-- whatever is marked in it
pub misses_nothing_there : WrittenProgramsMissNothing → (library : List ListedCell) (netlist bsdl events : List ℕ) → BelongTogether library netlist bsdl → SpellsProgram bsdl events → (linked : LinkedView) (tree : Module)
    → SpellsText netlist tree → IsLibrary library → linked.arena.lists.library ≡ library → IsLinkOf tree linked → (lines : Lines) → SpellsLines events lines → (script : List ScriptLine) → IsResolved linked lines script
    → (verdict : Verdict) → IsVerdict linked.arena.lists script verdict → verdict.missed ≡ []
misses_nothing_there law library netlist bsdl events together program linked tree spells listed library_is links lines spelled script resolved verdict judged =
    law library netlist bsdl events together program (bare linked)
    (record { tree = tree; spells = spells; listed = listed; library_is = library_is; links = links_there tree linked links; hides = record { straight = refl; inner = refl; rails = refl } }) lines spelled script
    (record { legal = legal_there linked lines resolved.legal; same = script_there linked lines script resolved.same; playable = resolved.playable }) verdict judged
