use Rattle.hier_laws.proofs.SolutionsLaws.{settled_where_solved}
use Rattle.hier_laws.proofs.solutions.laws.settled_where_solved.Goals as goal

pub returns : goal.returns
returns c = settled_where_solved
