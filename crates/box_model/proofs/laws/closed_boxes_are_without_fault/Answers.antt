use Rattle.box_model.proofs.ClosedNames.{closed_is_clear}
use Rattle.box_model.proofs.laws.closed_boxes_are_without_fault.Goals as goal

pub returns : goal.returns
returns c = closed_is_clear
