use Rattle.box_model.proofs.Returned.{closed_is_back}
use Rattle.box_model.proofs.laws.closing_gives_back.Goals as goal

pub returns : goal.returns
returns c = closed_is_back
