use Rattle.program_runs.proofs.Beside.{some_run_beside_program}
use Rattle.program_runs.proofs.some_run_beside_program.Goals as goal

pub returns : goal.returns
returns c = some_run_beside_program c.some_program_run.ensures
