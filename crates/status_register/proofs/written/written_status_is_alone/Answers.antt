use Rattle.status_register.proofs.WrittenWhole.{is_alone}
use Rattle.status_register.proofs.written.written_status_is_alone.Goals as goal

pub returns : goal.returns
returns c = is_alone (record {
  fitting = c.fitted_is_fitting.ensures;
  renumbered = c.written_is_renumbered.ensures;
  places = c.dense_keeps_places.ensures;
}) c.built_status_is_alone.ensures c.renumbered_is_alone.ensures
