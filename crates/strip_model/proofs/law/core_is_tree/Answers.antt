use Rattle.strip_model.proofs.law.core_is_tree.Goals as goal
use Rattle.strip_model.proofs.Core.{core_is_tree}

pub returns : goal.returns
returns c = core_is_tree
