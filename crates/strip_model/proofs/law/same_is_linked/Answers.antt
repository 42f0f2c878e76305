use Rattle.strip_model.proofs.law.same_is_linked.Goals as goal
use Rattle.strip_model.proofs.LawNames.{same_is_linked}

pub returns : goal.returns
returns c = same_is_linked c.same_names.ensures
