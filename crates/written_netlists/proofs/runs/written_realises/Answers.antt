use Rattle.written_netlists.proofs.Written as written
use Rattle.written_netlists.proofs.runs.written_realises.Goals as goal

pub returns : goal.returns
returns c =
    written.written_realises c.fitted_is_fitting.ensures c.stitched_is_formed.ensures c.stitched_is_renumbered.ensures c.stitched_keeps.ensures c.fitting_plans_realise.ensures
    c.renumbered_realises.ensures
