use Rattle.box_model.proofs.TreesClosed.{closed_is_tree}
use Rattle.box_model.proofs.TreesOpened.{opened_is_tree}
use Rattle.box_model.proofs.laws.trees_stay_trees.Goals as goal

pub returns-clause-closed : goal.returns-clause-closed
returns-clause-closed c = closed_is_tree

pub returns-clause-opened : goal.returns-clause-opened
returns-clause-opened c = opened_is_tree
