use Rattle.status_register.proofs.WrittenWhole.{keeps_limits}
use Rattle.status_register.proofs.written.status_keeps_limits.Goals as goal

pub returns : goal.returns
returns c = keeps_limits c.fitted_is_fitting.ensures c.fitted_registers_can_be_built.ensures c.stitched_has_counts.ensures c.constants_are_bits.ensures
