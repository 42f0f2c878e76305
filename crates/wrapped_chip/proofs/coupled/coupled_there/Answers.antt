use Rattle.wrapped_chip.proofs.Alike.{coupled_there}
use Rattle.wrapped_chip.proofs.coupled.coupled_there.Goals as goal

pub returns : goal.returns
returns c = coupled_there
