use Rattle.stitched_netlist.proofs.Nests.{stitched_nests as lemma}
use Rattle.stitched_netlist.proofs.inside.stitched_nests.Goals as goal

pub returns : goal.returns
returns c = lemma c.built_in_nests.ensures c.stitched_is_built_in.ensures
