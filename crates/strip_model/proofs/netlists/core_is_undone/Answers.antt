use Rattle.strip_model.proofs.netlists.core_is_undone.Goals as goal
use Rattle.strip_model.proofs.Undone.{cell_undone}

pub returns : goal.returns
returns c = cell_undone
