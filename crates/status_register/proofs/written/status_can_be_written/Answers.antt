use Rattle.status_register.proofs.WrittenWhole.{can_be_written}
use Rattle.status_register.proofs.written.status_can_be_written.Goals as goal

pub returns : goal.returns
returns c = can_be_written c.fitted_is_fitting.ensures c.stitched_has_free_prefix.ensures c.registers_are_named.ensures
