-- Scripts of programs run as the program, and no expectation of theirs is missed.
use Rattle.std.proofs.Common.{List, ◌++◌, ◌∙◌, subst}
use Rattle.signal_values.specs.declared.Sig.TheVariants.{Unknown}
use Rattle.netlist_model.specs.declared.PinBit.{PinBit}
use Rattle.netlist_model.specs.Ports.{BitHasDirection}
use Rattle.scan_vectors.specs.declared.lines.Line.{Line}
use Rattle.scan_vectors.specs.Pins.{TakesValue, HasStart}
use Rattle.sim_runs.specs.Runs.{events_of}
use Rattle.scan_programs.specs.Program.{program_of}
use Rattle.program_runs.specs.Laws.{ProgramNamesPins, NetlistMeetsProgram}
use Rattle.program_runs.specs.ScriptsWords.{WordsNameBits}
use Rattle.program_runs.specs.ScriptsLaws.{ScriptsRunThere, ScriptsAreMet}
use Rattle.program_runs.proofs.Found.{AreFound, are_found}
use Rattle.program_runs.proofs.Starts.{starts_there}
use Rattle.program_runs.proofs.ScriptsSets.{behind_starts}
use Rattle.program_runs.proofs.Expectations.{none_missed_behind}

pub scripts_run_there : WordsNameBits → ProgramNamesPins → BitHasDirection → ScriptsRunThere
scripts_run_there law name directed L B N formed beside script is moment run =
    let lines = is.starts ++ program_of B in
    let found : AreFound L (is.starts ++ program_of B) script = subst (λ (list : List Line). AreFound L list script) is.program (are_found L is.lines script is.numbered is.resolved.same) in
    let all : (pin : PinBit) → TakesValue L.arena.lists pin → HasStart L lines pin =
    subst (λ (list : List Line). (pin : PinBit) → TakesValue L.arena.lists pin → HasStart L list pin) is.program is.resolved.legal.started in
    record {
      run = run.run;
      starts = starts_there law directed L B N is.starts (program_of B) script (moment 0) formed
          (record { beside = beside; hidden = is.hidden; names = name B; found = found; all = all; starts = run.starts; known = run.run.start.controls });
      sets = behind_starts law L B N beside is.starts (program_of B) is.hidden.are (name B) script found is.resolved.playable.there;
    }

pub scripts_are_met : WordsNameBits → ScriptsRunThere → NetlistMeetsProgram → ScriptsAreMet
scripts_are_met law there meets L B N chip script is verdict judged =
    let M = L.arena.lists in
    let moment = judged.moment in
    let plays = there L B N chip.formed chip.beside script is moment judged.run in
    let read = meets M B N chip.formed chip.suits chip.around chip.realises (λ cell. Unknown) (events_of M script) moment plays in
    let found : AreFound L (is.starts ++ program_of B) script = subst (λ (list : List Line). AreFound L list script) is.program (are_found L is.lines script is.numbered is.resolved.same) in
    judged.missed_are ∙ none_missed_behind law L B N chip.formed chip.beside moment is.starts (program_of B) is.hidden.are script found read
