use Rattle.strip_model.proofs.netlists.core_is_told.Goals as goal
use Rattle.strip_model.proofs.Assembly.{is_told}

pub returns : goal.returns
returns c = is_told
