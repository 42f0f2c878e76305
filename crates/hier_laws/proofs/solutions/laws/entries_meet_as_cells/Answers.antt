use Rattle.hier_laws.proofs.SolutionsCells.{entries_meet_as_cells}
use Rattle.hier_laws.proofs.solutions.laws.entries_meet_as_cells.Goals as goal

pub returns : goal.returns
returns c = entries_meet_as_cells
