use Rattle.stitched_netlist.proofs.PlacesParts.{stitched_extends as lemma}
use Rattle.stitched_netlist.proofs.places.stitched_extends.Goals as goal

pub returns : goal.returns
returns c = lemma
