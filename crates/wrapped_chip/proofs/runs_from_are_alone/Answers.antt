use Rattle.wrapped_chip.proofs.Stretches.{runs_from_alone}
use Rattle.wrapped_chip.proofs.runs_from_are_alone.Goals as goal

pub returns : goal.returns
returns c = runs_from_alone c.some_run.ensures
