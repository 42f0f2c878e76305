use Rattle.hier_laws.proofs.MetEquations.{settled_meets}
use Rattle.hier_laws.proofs.solutions.laws.settled_meets.Goals as goal

pub returns : goal.returns
returns c = settled_meets
