use Rattle.status_stitch.proofs.Fitted.{registers_own}
use Rattle.status_stitch.proofs.realised.fitted_registers_are_own.Goals as goal

pub returns : goal.returns
returns c = registers_own
