use Rattle.program_runs.proofs.Sets.{some_program_run}
use Rattle.program_runs.proofs.some_program_run.Goals as goal

pub returns : goal.returns
returns c = some_program_run c.program_names_pins.ensures c.some_chip_run.ensures
