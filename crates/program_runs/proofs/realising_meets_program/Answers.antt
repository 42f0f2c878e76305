use Rattle.program_runs.proofs.Beside.{realising_meets_program}
use Rattle.program_runs.proofs.realising_meets_program.Goals as goal

pub returns : goal.returns
returns c = realising_meets_program c.chip_meets_program.ensures
