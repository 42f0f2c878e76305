use Rattle.written_netlists.proofs.Written as written
use Rattle.written_netlists.proofs.runs.written_is_alone.Goals as goal

pub returns : goal.returns
returns c =
    written.written_is_alone c.fitted_is_fitting.ensures c.stitched_is_formed.ensures c.stitched_is_renumbered.ensures c.stitched_keeps.ensures c.fitting_plans_are_alone.ensures
    c.renumbered_is_alone.ensures
