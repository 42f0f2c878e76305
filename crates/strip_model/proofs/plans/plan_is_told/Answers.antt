use Rattle.strip_model.proofs.plans.plan_is_told.Goals as goal
use Rattle.strip_model.proofs.PlansWhole.{plan_told}

pub returns : goal.returns
returns c = plan_told c.direction_of_a_bit.ensures c.driver_is_found.ensures
