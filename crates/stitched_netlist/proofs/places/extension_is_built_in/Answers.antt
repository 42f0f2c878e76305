use Rattle.stitched_netlist.proofs.PlacesParts.{extension_is_built_in as lemma}
use Rattle.stitched_netlist.proofs.places.extension_is_built_in.Goals as goal

pub returns : goal.returns
returns c = lemma c.contained_parts.ensures
