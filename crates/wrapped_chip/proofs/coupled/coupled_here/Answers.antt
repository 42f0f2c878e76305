use Rattle.wrapped_chip.proofs.Alike.{coupled_here}
use Rattle.wrapped_chip.proofs.coupled.coupled_here.Goals as goal

pub returns : goal.returns
returns c = coupled_here
