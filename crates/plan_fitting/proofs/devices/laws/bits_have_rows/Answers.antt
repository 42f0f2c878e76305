use Rattle.plan_fitting.proofs.RowPlaces.{bits_have_rows}
use Rattle.plan_fitting.proofs.devices.laws.bits_have_rows.Goals as goal

pub returns : goal.returns
returns c = bits_have_rows c.direction_of_a_bit.ensures c.driver_is_found.ensures
