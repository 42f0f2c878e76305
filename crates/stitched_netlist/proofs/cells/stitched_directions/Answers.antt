use Rattle.stitched_netlist.proofs.Directions.{directions as lemma}
use Rattle.stitched_netlist.proofs.cells.stitched_directions.Goals as goal

pub returns : goal.returns
returns c = lemma c.bit_of_a_direction.ensures
