-- The controller of the stitched netlist was added.
use Rattle.std.proofs.Common.{◌≡◌, ◌+◌, ◌<◌, refl, List, arith}
use Rattle.netlist_model.specs.Formed.{IsLaidOut}
use Rattle.netlist_model.specs.Contained.{IsDense}
use Rattle.plan_fitting.specs.netlist_link.Linked.{LinkedView}
use Rattle.test_logic.specs.declared.TapState.{TapState}
use Rattle.test_logic.specs.declared.TapState.TheVariants.{TestLogicReset, RunTestIdle, SelectDrScan, CaptureDr, ShiftDr, Exit1Dr, PauseDr, Exit2Dr, UpdateDr, SelectIrScan, CaptureIr, ShiftIr, Exit1Ir, PauseIr, Exit2Ir, UpdateIr}
use Rattle.tap_gates.specs.Controller.{place}
use Rattle.plan_texts.specs.declared.plan.Plan.{Plan}
use Rattle.plan_fitting.specs.declared.fitted.Fitted.{Fitted}
use Rattle.plan_fitting.specs.Pins.{PinSeen}
use Rattle.plan_fitting.specs.Devices.{fitted_of}
use Rattle.plan_fitting.specs.FittingPlan.{IsFitting}
use Rattle.surrounded_core.specs.instruction_gates.Register.{instruction_size}
use Rattle.stitched_netlist.specs.declared.model.TapNames.{TapNames}
use Rattle.stitched_netlist.specs.ModelLogic.{logic_size, code_size}
use Rattle.stitched_netlist.specs.Stitched.{stitched}
use Rattle.surrounded_core.specs.Home.{IsControllerAdded}
use Rattle.stitched_netlist.specs.InsidePlaces.{places_of}
use Rattle.stitched_netlist.specs.FormedLaws.{StitchedLogicIsAdded}

place_few : (s : TapState) → place s < 16
place_few TestLogicReset = omega arith
place_few RunTestIdle = omega arith
place_few SelectDrScan = omega arith
place_few CaptureDr = omega arith
place_few ShiftDr = omega arith
place_few Exit1Dr = omega arith
place_few PauseDr = omega arith
place_few Exit2Dr = omega arith
place_few UpdateDr = omega arith
place_few SelectIrScan = omega arith
place_few CaptureIr = omega arith
place_few ShiftIr = omega arith
place_few Exit1Ir = omega arith
place_few PauseIr = omega arith
place_few Exit2Ir = omega arith
place_few UpdateIr = omega arith

place_low : (f : Fitted) (s : TapState) → place s < logic_size f
place_low f s =
    let few = place_few s in
    let whole : logic_size f ≡ 49 + instruction_size f.codes + 5 + code_size f.usercode f.idcode = refl in
    omega arith

pub controller_added : StitchedLogicIsAdded → (L : LinkedView) (p : Plan) (seen : List PinSeen) (names : TapNames) → IsFitting L p seen → IsLaidOut L.arena.lists → IsDense L.arena.lists
    → IsControllerAdded (stitched L.arena.lists names (fitted_of L p seen)) L.arena.lists (places_of L.arena.lists names (fitted_of L p seen))
controller_added added L p seen names fits laid dense s i cell live output =
    added L p seen names fits laid dense i (place s) cell (place_low (fitted_of L p seen) s) (record { live = live; output = output })
