use Rattle.demo_chips.proofs.Short.{chips_are_short, plan_is_short}
use Rattle.demo_chips.proofs.plans.laws.demo_texts_are_short.Goals as goal

pub returns : goal.returns
returns c = record { netlists = chips_are_short; plan = plan_is_short }
