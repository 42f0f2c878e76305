-- Such a netlist behaves as the original wrapped in the plan's device with the registers, and as the original alone.
-- Own. For IEEE Std 1149.1-2001 (design-specific test data registers) see status_gates.
use Rattle.std.specs.Prelude.{List}
use Rattle.netlist_model.specs.Lists.{NetlistView}
use Rattle.netlist_model.specs.Formed.{IsLaidOut}
use Rattle.netlist_model.specs.Contained.{IsDense}
use Rattle.netlist_link.specs.Linked.{LinkedView}
use Rattle.wrapped_chip.specs.Realises.{Alone}
use Rattle.plan_texts.specs.declared.plan.Plan.{Plan}
use Rattle.plan_fitting.specs.Pins.{PinSeen}
use Rattle.plan_fitting.specs.Devices.{fitted_of, device_of}
use Rattle.plan_fitting.specs.FittingPlan.{IsFitting}
use Rattle.stitched_netlist.specs.declared.model.TapNames.{TapNames}
use Rattle.status_fitting.specs.declared.register_texts.plan.StatusPlan.{StatusPlan}
use Rattle.status_fitting.specs.declared.fitted.FittedRegister.{FittedRegister}
use Rattle.status_fitting.specs.declared.fitted.FittedStatus.{FittedStatus}
use Rattle.status_fitting.specs.Faults.{HasNoFault, IsSpelled}
use Rattle.status_fitting.specs.Fitted.{IsFitted}
use Rattle.status_gates.specs.Realises.{RealisesStatus, FindsHomeWithRegisters}
use Rattle.status_stitch.specs.Stands.{HasStatus}
use Rattle.status_stitch.specs.Built.{IsBuilt}

-- own: it has all that the law of such netlists asks for
abbrev pub BuiltHasStatus : Type 0
BuiltHasStatus = (L : LinkedView) (p : Plan) (seen : List PinSeen) (names : TapNames) (M : NetlistView) (registers : List FittedRegister) → IsFitting L p seen → IsLaidOut L.arena.lists
    → IsDense L.arena.lists → IsBuilt M L.arena.lists names (fitted_of L p seen) registers → HasStatus L p seen names M registers

-- own: a plan and registers that fit a netlist without gaps, and the netlist with both built in
pub record IsWholeStatus (L : LinkedView) (p : Plan) (seen : List PinSeen) (names : TapNames) (plan : StatusPlan) (fitted : FittedStatus) (M : NetlistView) : Type 0 where
  pub fits : IsFitting L p seen
  pub laid_out : IsLaidOut L.arena.lists
  pub dense : IsDense L.arena.lists
  pub spelled : IsSpelled plan
  pub fitted_is : IsFitted L plan fitted
  pub faultless : HasNoFault L p plan
  pub built : IsBuilt M L.arena.lists names (fitted_of L p seen) fitted.registers

-- with no other premise it realises the chip with the registers
abbrev pub BuiltStatusRealises : Type 0
BuiltStatusRealises = (L : LinkedView) (p : Plan) (seen : List PinSeen) (names : TapNames) (plan : StatusPlan) (fitted : FittedStatus) (M : NetlistView)
    → IsWholeStatus L p seen names plan fitted M → RealisesStatus M (device_of L p seen) L.arena.lists fitted.registers

-- and is the netlist alone while the instruction in effect is transparent, where a register's own counts as BYPASS
abbrev pub BuiltStatusIsAlone : Type 0
BuiltStatusIsAlone = (L : LinkedView) (p : Plan) (seen : List PinSeen) (names : TapNames) (plan : StatusPlan) (fitted : FittedStatus) (M : NetlistView)
    → IsWholeStatus L p seen names plan fitted M → Alone M (device_of L p seen) L.arena.lists

-- and from whatever the test logic and the registers hold it finds home
abbrev pub BuiltStatusFindsHome : Type 0
BuiltStatusFindsHome = (L : LinkedView) (p : Plan) (seen : List PinSeen) (names : TapNames) (plan : StatusPlan) (fitted : FittedStatus) (M : NetlistView)
    → IsWholeStatus L p seen names plan fitted M → FindsHomeWithRegisters M (device_of L p seen) L.arena.lists fitted.registers
