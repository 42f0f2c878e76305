use Rattle.verilog_tree.proofs.SpelledTrees.{spelled_is_tree}
use Rattle.verilog_tree.proofs.reading.laws.spelled_trees_keep_the_conditions.Goals as goal

pub returns : goal.returns
returns c = spelled_is_tree
