use Rattle.written_netlists.proofs.Written as written
use Rattle.written_netlists.proofs.runs.written_is_alone_from_home.Goals as goal

pub returns : goal.returns
returns c = written.written_is_alone_from_home c.fitted_is_fitting.ensures c.plans_suit_netlists.ensures c.home_is_alone.ensures
