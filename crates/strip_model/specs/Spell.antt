-- That some text spells the plan that is told.
-- own: the lines of plans
use Rattle.std.specs.Prelude.{List}
use Rattle.netlist_link.specs.Linked.{LinkedView}
use Rattle.plan_texts.specs.declared.plan.Plan.{Plan}
use Rattle.plan_texts.specs.Canonical.{IsPlan}
use Rattle.plan_fitting.specs.Pins.{PinSeen}
use Rattle.plan_fitting.specs.FittingPlan.{IsFitting}
use Rattle.strip_model.specs.PlansTold.{told_plan}

abbrev pub ToldPlanIsSpelled : Type 0
ToldPlanIsSpelled = (L : LinkedView) (p : Plan) (seen : List PinSeen) → IsFitting L p seen → IsPlan (told_plan L p seen)
