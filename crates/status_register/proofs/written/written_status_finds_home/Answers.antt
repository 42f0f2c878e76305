use Rattle.status_register.proofs.WrittenWhole.{finds_home}
use Rattle.status_register.proofs.written.written_status_finds_home.Goals as goal

pub returns : goal.returns
returns c = finds_home (record {
  fitting = c.fitted_is_fitting.ensures;
  renumbered = c.written_is_renumbered.ensures;
  places = c.dense_keeps_places.ensures;
}) c.built_status_finds_home.ensures c.renumbered_finds_home_by.ensures
