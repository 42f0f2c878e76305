use Rattle.status_register.proofs.WrittenWhole.{has_controls}
use Rattle.status_register.proofs.written.written_status_has_controls.Goals as goal

pub returns : goal.returns
returns c = has_controls (record {
  fitting = c.fitted_is_fitting.ensures;
  renumbered = c.written_is_renumbered.ensures;
  places = c.dense_keeps_places.ensures;
}) c.built_has_status.ensures c.renumbered_has_controls.ensures
