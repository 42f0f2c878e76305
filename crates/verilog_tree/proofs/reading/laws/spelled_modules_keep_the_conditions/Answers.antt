use Rattle.verilog_tree.proofs.SpelledTrees.{spelled_are_trees}
use Rattle.verilog_tree.proofs.reading.laws.spelled_modules_keep_the_conditions.Goals as goal

pub returns : goal.returns
returns c = spelled_are_trees
