use Rattle.demo_chips.proofs.Tree.{demo_is_a_tree}
use Rattle.demo_chips.proofs.netlists.demo_is_a_tree.Goals as goal

pub returns : goal.returns
returns c = demo_is_a_tree
