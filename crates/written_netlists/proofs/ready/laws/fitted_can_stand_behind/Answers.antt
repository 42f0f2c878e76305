use Rattle.written_netlists.proofs.ReadyLaws.{fitted_can_stand_behind}
use Rattle.written_netlists.proofs.ready.laws.fitted_can_stand_behind.Goals as goal

pub returns : goal.returns
returns c = fitted_can_stand_behind
