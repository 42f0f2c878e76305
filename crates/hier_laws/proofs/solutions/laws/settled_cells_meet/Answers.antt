use Rattle.hier_laws.proofs.Settled.{settled_cells_meet}
use Rattle.hier_laws.proofs.solutions.laws.settled_cells_meet.Goals as goal

pub returns : goal.returns
returns c = settled_cells_meet
