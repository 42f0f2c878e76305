use Rattle.program_runs.proofs.Levels.{programs_keep_levels}
use Rattle.program_runs.proofs.scripts.programs_keep_levels.Goals as goal

pub returns : goal.returns
returns c = programs_keep_levels
