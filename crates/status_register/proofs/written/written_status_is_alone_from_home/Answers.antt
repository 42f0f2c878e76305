use Rattle.status_register.proofs.WrittenWhole.{is_alone_from_home}
use Rattle.status_register.proofs.written.written_status_is_alone_from_home.Goals as goal

pub returns : goal.returns
returns c = is_alone_from_home c.fitted_is_fitting.ensures c.status_is_alone_from_home.ensures
