use Rattle.strip_model.proofs.netlists.fitted_can_be_undone.Goals as goal
use Rattle.strip_model.proofs.LiveRows.{can_be_undone}

pub returns : goal.returns
returns c = can_be_undone c.rows_stand_somewhere.ensures
