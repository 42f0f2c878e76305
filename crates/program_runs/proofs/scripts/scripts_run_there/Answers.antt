use Rattle.program_runs.proofs.ScriptsWhole.{scripts_run_there}
use Rattle.program_runs.proofs.scripts.scripts_run_there.Goals as goal

pub returns : goal.returns
returns c = scripts_run_there c.words_name_bits.ensures c.program_names_pins.ensures c.direction_of_a_bit.ensures
