-- Registers that were fitted can be built in.
-- Own.
use Rattle.std.specs.Prelude.{List, All}
use Rattle.netlist_link.specs.Linked.{LinkedView}
use Rattle.plan_texts.specs.declared.plan.Plan.{Plan}
use Rattle.plan_fitting.specs.Pins.{PinSeen}
use Rattle.plan_fitting.specs.Devices.{fitted_of}
use Rattle.plan_fitting.specs.FittingPlan.{IsFitting}
use Rattle.status_fitting.specs.declared.register_texts.plan.StatusPlan.{StatusPlan}
use Rattle.status_fitting.specs.declared.fitted.FittedStatus.{FittedStatus}
use Rattle.status_fitting.specs.Faults.{IsSpelled, HasNoFault}
use Rattle.status_fitting.specs.Fitted.{IsFitted}
use Rattle.status_room.specs.Needed.{AreBuildable, IsUntaken}

-- of a plan that fits a netlist, and registers that some text spells, which fit both
abbrev pub FittedCanBeBuilt : Type 0
FittedCanBeBuilt = (L : LinkedView) (p : Plan) (seen : List PinSeen) (plan : StatusPlan) (s : FittedStatus) → IsFitting L p seen → IsSpelled plan → IsFitted L plan s
    → HasNoFault L p plan → AreBuildable L.arena.lists (fitted_of L p seen) s.registers

-- and their opcodes are none of the plan's
abbrev pub FittedAreUntaken : Type 0
FittedAreUntaken = (L : LinkedView) (p : Plan) (seen : List PinSeen) (plan : StatusPlan) (s : FittedStatus) → IsSpelled plan → IsFitted L plan s → HasNoFault L p plan
    → All (IsUntaken (fitted_of L p seen)) s.registers
