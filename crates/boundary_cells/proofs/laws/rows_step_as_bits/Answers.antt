use Rattle.boundary_cells.proofs.MachineRows.{rows_step as lemma}
use Rattle.boundary_cells.proofs.laws.rows_step_as_bits.Goals as goal

pub returns : goal.returns
returns c = lemma
