use Rattle.plan_texts.specs.Canonical.{canonical_plan}
use Rattle.demo_chips.specs.Plans.{demo_plan}
use Rattle.demo_chips.proofs.PlanText.{plan_is_spelled}
use Rattle.demo_chips.proofs.plans.laws.demo_plan_is_spelled.Goals as goal

pub returns : goal.returns
returns c =
    let spelled = plan_is_spelled c.texts_of_rows_read_back.ensures in
    record {
      spelled = spelled;
      alone = λ other spells. c.texts_of_plans_are_spelled_or_at_fault.ensures.once (canonical_plan demo_plan) other demo_plan spells spelled;
    }
