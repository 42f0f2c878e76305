use Rattle.stitched_netlist.proofs.InsideWhole.{stitched_surrounds as lemma}
use Rattle.stitched_netlist.proofs.inside.stitched_surrounds.Goals as goal

pub returns : goal.returns
returns c = lemma c.built_in_surrounds.ensures c.stitched_is_built_in.ensures
