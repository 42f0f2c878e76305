use Rattle.plan_fitting.proofs.SuitsIs.{plans_suit_netlists}
use Rattle.plan_fitting.proofs.devices.laws.plans_suit_netlists.Goals as goal

pub returns : goal.returns
returns c = plans_suit_netlists c.direction_of_a_bit.ensures c.bit_of_a_direction.ensures c.driver_is_found.ensures
