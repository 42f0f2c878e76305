use Rattle.stitched_netlist.proofs.Core.{holds_the_core as lemma}
use Rattle.stitched_netlist.proofs.places.stitched_holds_the_core.Goals as goal

pub returns : goal.returns
returns c = lemma
