use Rattle.program_runs.proofs.ScriptsWhole.{scripts_are_met}
use Rattle.program_runs.proofs.scripts.scripts_are_met.Goals as goal

pub returns : goal.returns
returns c = scripts_are_met c.words_name_bits.ensures c.scripts_run_there.ensures c.netlist_meets_program.ensures
