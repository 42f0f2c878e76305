use Rattle.plan_fitting.proofs.RowPlaces.{hidden_bits_have_none}
use Rattle.plan_fitting.proofs.devices.laws.hidden_bits_have_none.Goals as goal

pub returns : goal.returns
returns c = hidden_bits_have_none c.direction_of_a_bit.ensures c.driver_is_found.ensures
