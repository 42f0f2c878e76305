use Rattle.written_netlists.proofs.ModulesWhole.{can_be_written}
use Rattle.written_netlists.proofs.modules.stitched_can_be_written.Goals as goal

pub returns : goal.returns
returns c = can_be_written c.fitted_is_fitting.ensures c.stitched_has_free_prefix.ensures
