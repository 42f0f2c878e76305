use Rattle.stitched_netlist.proofs.PlacesParts.{is_built_in}
use Rattle.stitched_netlist.proofs.places.stitched_is_built_in.Goals as goal

pub returns : goal.returns
returns c = is_built_in c.stitched_holds_its_parts.ensures c.stitched_holds_the_core.ensures
