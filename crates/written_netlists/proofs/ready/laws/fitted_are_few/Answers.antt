use Rattle.written_netlists.proofs.ReadyFew.{fitted_are_few}
use Rattle.written_netlists.proofs.ready.laws.fitted_are_few.Goals as goal

pub returns : goal.returns
returns c = fitted_are_few
