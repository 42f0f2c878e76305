use Rattle.written_netlists.proofs.Numbers.{is_renumbered}
use Rattle.written_netlists.proofs.modules.stitched_is_renumbered.Goals as goal

pub returns : goal.returns
returns c = is_renumbered c.stitched_has_counts.ensures c.written_is_renumbered.ensures c.dense_keeps_places.ensures
