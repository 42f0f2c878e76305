use Rattle.strip_model.proofs.plans.same_is_fitted.Goals as goal
use Rattle.strip_model.proofs.PlansWhole.{fitted_same}

pub returns : goal.returns
returns c = fitted_same c.direction_of_a_bit.ensures c.driver_is_found.ensures
