use Rattle.stitched_netlist.proofs.PlacesLaws.{keeps as lemma}
use Rattle.stitched_netlist.proofs.places.stitched_keeps.Goals as goal

pub returns : goal.returns
returns c = lemma
