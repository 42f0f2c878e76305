use Rattle.plan_fitting.proofs.RowPlaces.{rows_stand_at_bits}
use Rattle.plan_fitting.proofs.devices.laws.rows_stand_at_bits.Goals as goal

pub returns : goal.returns
returns c = rows_stand_at_bits c.direction_of_a_bit.ensures c.driver_is_found.ensures
