use Rattle.status_register.proofs.WrittenWhole.{realises}
use Rattle.status_register.proofs.written.written_status_realises.Goals as goal

pub returns : goal.returns
returns c = realises (record {
  fitting = c.fitted_is_fitting.ensures;
  renumbered = c.written_is_renumbered.ensures;
  places = c.dense_keeps_places.ensures;
}) c.built_status_realises.ensures c.renumbered_realises_by.ensures
