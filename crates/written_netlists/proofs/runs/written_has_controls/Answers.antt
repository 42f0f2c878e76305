use Rattle.written_netlists.proofs.Written as written
use Rattle.written_netlists.proofs.runs.written_has_controls.Goals as goal

pub returns : goal.returns
returns c = written.written_has_controls c.fitted_is_fitting.ensures c.stitched_is_renumbered.ensures c.fitting_plans_have_controls.ensures c.renumbered_has_controls.ensures
