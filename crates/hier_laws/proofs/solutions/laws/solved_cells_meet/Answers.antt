use Rattle.hier_laws.proofs.MetEquations.{solved_cells_meet}
use Rattle.hier_laws.proofs.solutions.laws.solved_cells_meet.Goals as goal

pub returns : goal.returns
returns c = solved_cells_meet
