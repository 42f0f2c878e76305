use Rattle.wrapped_chip.proofs.Known.{from_reset}
use Rattle.wrapped_chip.proofs.power_ups_run_from_reset.Goals as goal

pub returns : goal.returns
returns c = from_reset
