use Rattle.stitched_netlist.proofs.PlacesParts.{holds_parts as lemma}
use Rattle.stitched_netlist.proofs.places.stitched_holds_its_parts.Goals as goal

pub returns : goal.returns
returns c = lemma c.contained_parts.ensures
