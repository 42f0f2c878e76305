use Rattle.strip_model.proofs.plans.told_plan_is_spelled.Goals as goal
use Rattle.strip_model.proofs.SpelledWhole.{told_is_spelled}

pub returns : goal.returns
returns c = told_is_spelled c.plans_with_other_lines_are_spelled.ensures c.direction_of_a_bit.ensures c.driver_is_found.ensures
