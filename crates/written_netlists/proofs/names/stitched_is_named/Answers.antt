use Rattle.written_netlists.proofs.Views.{stitched_named}
use Rattle.written_netlists.proofs.names.stitched_is_named.Goals as goal

pub returns : goal.returns
returns c = stitched_named c.tap_names_are_new.ensures c.stitched_holds_the_core.ensures c.part_is_named.ensures c.stitched_directions.ensures
