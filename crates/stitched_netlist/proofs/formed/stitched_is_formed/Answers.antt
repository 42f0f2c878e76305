use Rattle.stitched_netlist.proofs.FormedLaws.{formed as lemma}
use Rattle.stitched_netlist.proofs.formed.stitched_is_formed.Goals as goal

pub returns : goal.returns
returns c = lemma c.stitched_has_drivers.ensures c.stitched_is_ordered.ensures c.stitched_has_cones.ensures
