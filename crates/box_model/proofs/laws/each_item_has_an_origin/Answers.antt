use Rattle.box_model.proofs.Origins.{origins_are_as_many}
use Rattle.box_model.proofs.laws.each_item_has_an_origin.Goals as goal

pub returns : goal.returns
returns c = origins_are_as_many
