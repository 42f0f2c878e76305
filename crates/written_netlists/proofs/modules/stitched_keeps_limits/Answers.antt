use Rattle.written_netlists.proofs.ModulesLimits.{keeps_limits}
use Rattle.written_netlists.proofs.modules.stitched_keeps_limits.Goals as goal

pub returns : goal.returns
returns c = keeps_limits c.stitched_has_counts.ensures
