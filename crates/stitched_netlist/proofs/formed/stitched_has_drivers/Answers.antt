use Rattle.stitched_netlist.proofs.FormedLaws.{has_drivers as lemma}
use Rattle.stitched_netlist.proofs.formed.stitched_has_drivers.Goals as goal

pub returns : goal.returns
returns c = lemma c.rows_stand_somewhere.ensures c.rows_stand_once.ensures c.nets_have_rows.ensures c.bit_of_a_direction.ensures
