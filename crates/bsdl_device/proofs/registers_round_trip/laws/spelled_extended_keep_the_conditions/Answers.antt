use Rattle.bsdl_device.proofs.Kept.{extended_kept}
use Rattle.bsdl_device.proofs.registers_round_trip.laws.spelled_extended_keep_the_conditions.Goals as goal

pub returns : goal.returns
returns c = extended_kept
