use Rattle.box_model.proofs.Reopened.{opened_is_back}
use Rattle.box_model.proofs.OpenedShape.{opened_is_in_shape}
use Rattle.box_model.proofs.laws.opening_gives_back.Goals as goal

pub returns-clause-back : goal.returns-clause-back
returns-clause-back c = opened_is_back

pub returns-clause-shape : goal.returns-clause-shape
returns-clause-shape c = opened_is_in_shape
