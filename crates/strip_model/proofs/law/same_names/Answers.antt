use Rattle.strip_model.proofs.law.same_names.Goals as goal
use Rattle.strip_model.proofs.LawNames.{same_names}

pub returns : goal.returns
returns c = same_names
