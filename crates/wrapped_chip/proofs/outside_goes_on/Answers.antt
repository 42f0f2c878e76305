use Rattle.wrapped_chip.proofs.Outside.{goes_on}
use Rattle.wrapped_chip.proofs.outside_goes_on.Goals as goal

pub returns : goal.returns
returns c = goes_on
