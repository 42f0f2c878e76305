-- The stitched netlist behaves as the wrapped chip of the plan's device, and as the netlist alone; TCK and TRST are the
-- control ports that it has more.
-- Own. For IEEE Std 1149.1-2001 (normal operation of the system logic under BYPASS, IDCODE, USERCODE, SAMPLE and
-- PRELOAD) see `Alone`.
use Rattle.std.specs.Prelude.{List}
use Rattle.netlist_model.specs.Formed.{IsLaidOut, IsWellFormed}
use Rattle.netlist_model.specs.Contained.{IsDense}
use Rattle.plan_fitting.specs.netlist_link.Linked.{LinkedView}
use Rattle.wrapped_chip.specs.Realises.{Realises, Alone}
use Rattle.wrapped_chip.specs.Beside.{HasPins}
use Rattle.wrapped_chip.specs.Legal.{HasControls}
use Rattle.wrapped_chip.specs.Home.{FindsHome}
use Rattle.plan_texts.specs.declared.plan.Plan.{Plan}
use Rattle.plan_fitting.specs.Pins.{PinSeen}
use Rattle.plan_fitting.specs.Devices.{fitted_of, device_of}
use Rattle.plan_fitting.specs.FittingPlan.{IsFitting}
use Rattle.stitched_netlist.specs.declared.model.TapNames.{TapNames}
use Rattle.stitched_netlist.specs.Stitched.{stitched}

-- of each plan that fits a netlist without gaps: through any events that are legal in the chip every pin reads as the
-- chip's, and the core's flip-flops hold what the chip's hold
abbrev pub StitchedRealises : Type 0
StitchedRealises = (L : LinkedView) (p : Plan) (seen : List PinSeen) (names : TapNames) → IsFitting L p seen → IsLaidOut L.arena.lists → IsDense L.arena.lists
    → IsWellFormed (stitched L.arena.lists names (fitted_of L p seen)) → HasPins (stitched L.arena.lists names (fitted_of L p seen)) L.arena.lists
    → HasControls (stitched L.arena.lists names (fitted_of L p seen)) L.arena.lists
    → Realises (stitched L.arena.lists names (fitted_of L p seen)) (device_of L p seen) L.arena.lists

-- and while the instruction in effect is transparent every pin reads as the netlist's alone
abbrev pub StitchedIsAlone : Type 0
StitchedIsAlone = (L : LinkedView) (p : Plan) (seen : List PinSeen) (names : TapNames) → IsFitting L p seen → IsLaidOut L.arena.lists → IsDense L.arena.lists
    → IsWellFormed (stitched L.arena.lists names (fitted_of L p seen)) → HasPins (stitched L.arena.lists names (fitted_of L p seen)) L.arena.lists
    → HasControls (stitched L.arena.lists names (fitted_of L p seen)) L.arena.lists
    → Alone (stitched L.arena.lists names (fitted_of L p seen)) (device_of L p seen) L.arena.lists

-- and so for each plan that fits a netlist without gaps whose named nets are there, with no other premise
abbrev pub FittingPlansRealise : Type 0
FittingPlansRealise = (L : LinkedView) (p : Plan) (seen : List PinSeen) (names : TapNames) → IsFitting L p seen → IsLaidOut L.arena.lists → IsDense L.arena.lists
    → Realises (stitched L.arena.lists names (fitted_of L p seen)) (device_of L p seen) L.arena.lists

abbrev pub FittingPlansAreAlone : Type 0
FittingPlansAreAlone = (L : LinkedView) (p : Plan) (seen : List PinSeen) (names : TapNames) → IsFitting L p seen → IsLaidOut L.arena.lists → IsDense L.arena.lists
    → Alone (stitched L.arena.lists names (fitted_of L p seen)) (device_of L p seen) L.arena.lists

-- the control ports are the netlist's, TCK and TRST
abbrev pub FittingPlansHaveControls : Type 0
FittingPlansHaveControls = (L : LinkedView) (p : Plan) (seen : List PinSeen) (names : TapNames) → IsFitting L p seen → IsLaidOut L.arena.lists → IsDense L.arena.lists
    → HasControls (stitched L.arena.lists names (fitted_of L p seen)) L.arena.lists

-- from whatever the test logic holds it finds home, and reads as the chip from there on
abbrev pub FittingPlansFindHome : Type 0
FittingPlansFindHome = (L : LinkedView) (p : Plan) (seen : List PinSeen) (names : TapNames) → IsFitting L p seen → IsLaidOut L.arena.lists → IsDense L.arena.lists
    → FindsHome (stitched L.arena.lists names (fitted_of L p seen)) (device_of L p seen) L.arena.lists
