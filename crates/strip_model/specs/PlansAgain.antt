-- That the plan that is told fits as the plan did.
-- IEEE Std 1149.1-2001: the annex on BSDL; IEEE Std 1364-2001: bit-selects; the statement is own.
use Rattle.std.specs.Prelude.{◌≡◌, List, None}
use Rattle.netlist_link.specs.Linked.{LinkedView}
use Rattle.plan_texts.specs.declared.plan.Plan.{Plan}
use Rattle.plan_fitting.specs.Names.{HasOpenNames}
use Rattle.plan_fitting.specs.Pins.{PinSeen, AreSeen}
use Rattle.plan_fitting.specs.Fits.{fault_with}
use Rattle.plan_fitting.specs.FittingPlan.{IsFitting}
use Rattle.strip_model.specs.PlansTold.{told_plan}

-- own: its lines name the same bits, where no name of a hidden port ends as a vector's bit does; and no fault stands
pub record FitsAgain (L : LinkedView) (p : Plan) (seen : List PinSeen) : Type 0 where
  pub are_seen : AreSeen L (told_plan L p seen).pins seen
  pub faultless : fault_with L (told_plan L p seen) seen ≡ None

abbrev pub ToldPlanFits : Type 0
ToldPlanFits = (L : LinkedView) (p : Plan) (seen : List PinSeen) → IsFitting L p seen → HasOpenNames L → FitsAgain L p seen
