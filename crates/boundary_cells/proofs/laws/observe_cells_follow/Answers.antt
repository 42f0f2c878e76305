use Rattle.boundary_cells.proofs.Cells.{observe as lemma}
use Rattle.boundary_cells.proofs.laws.observe_cells_follow.Goals as goal

pub returns : goal.returns
returns c = lemma c.shift_bits_follow.ensures
