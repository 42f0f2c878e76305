use Rattle.hier_laws.proofs.FlatTrees.{flat_modules_keep_the_conditions}
use Rattle.hier_laws.proofs.solutions.trees.flat_modules_keep_the_conditions.Goals as goal

pub returns : goal.returns
returns c = flat_modules_keep_the_conditions
