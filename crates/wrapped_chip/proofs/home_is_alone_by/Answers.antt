use Rattle.wrapped_chip.proofs.Stretches.{home_alone}
use Rattle.wrapped_chip.proofs.home_is_alone_by.Goals as goal

pub returns : goal.returns
returns c = home_alone c.some_run.ensures
