use Rattle.written_netlists.proofs.Written as written
use Rattle.written_netlists.proofs.runs.written_finds_home.Goals as goal

pub returns : goal.returns
returns c =
    written.written_finds_home c.fitted_is_fitting.ensures c.stitched_is_formed.ensures c.stitched_is_renumbered.ensures c.stitched_keeps.ensures c.fitting_plans_find_home.ensures
    c.renumbered_finds_home.ensures
