use Rattle.stitched_netlist.proofs.Sites.{stand as lemma}
use Rattle.stitched_netlist.proofs.rows.rows_stand_somewhere.Goals as goal

pub returns : goal.returns
returns c = lemma c.direction_of_a_bit.ensures c.driver_is_found.ensures
