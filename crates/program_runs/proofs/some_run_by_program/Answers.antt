use Rattle.program_runs.proofs.There.{some_run_by_program}
use Rattle.program_runs.proofs.some_run_by_program.Goals as goal

pub returns : goal.returns
returns c = some_run_by_program c.some_run_beside_program.ensures
