-- A netlist with the test logic and registers realises the chip with them, and finds home.
use Rattle.std.proofs.Common.{◌≡◌, ℕ, List, Option, Some, None, refl, sym, ◌∙◌}
use Rattle.std.specs.Prelude.{All}
use Rattle.netlist_model.specs.Lists.{CellView, NetlistView, cell_at}
use Rattle.plan_texts.specs.declared.plan.Plan.{Plan}
use Rattle.netlist_link.specs.Linked.{LinkedView}
use Rattle.plan_fitting.specs.declared.fitted.Fitted.{Fitted}
use Rattle.plan_fitting.specs.Pins.{PinSeen}
use Rattle.plan_fitting.specs.Devices.{fitted_of, device_of}
use Rattle.plan_fitting.specs.FittingPlan.{IsFitting}
use Rattle.plan_fitting.proofs.PlanBits.{plans_have_bits}
use Rattle.surrounded_core.specs.Home.{IsControllerAdded}
use Rattle.stitched_netlist.specs.declared.model.TapNames.{TapNames}
use Rattle.stitched_netlist.specs.FormedLaws.{StitchedLogicIsAdded}
use Rattle.stitched_netlist.specs.InsidePlaces.{places_in}
use Rattle.stitched_netlist.specs.Places.{IsInside, StitchedHoldsTheCore}
use Rattle.stitched_netlist.specs.Stitched.{stitched}
use Rattle.stitched_netlist.proofs.Home.{controller_added}
use Rattle.status_fitting.specs.declared.fitted.FittedRegister.{FittedRegister}
use Rattle.status_gates.specs.PartsLaws.{status_of}
use Rattle.status_gates.specs.Stands.{FitsBeside}
use Rattle.status_gates.specs.SurroundedLaws.{SurroundedStatusRealises, SurroundedStatusFindsHome}
use Rattle.status_gates.proofs.Each.{each_so}
use Rattle.open_stitch.specs.Open.{through_net}
use Rattle.status_stitch.specs.Stands.{IsOwn}
use Rattle.status_stitch.specs.RealisedLaws.{OwnInstructionsBypass, StatusRealises, StatusFindsHome}
use Rattle.status_stitch.proofs.Free.{is_free}
use Rattle.status_stitch.proofs.RealisedOpened.{BuiltLaws, Surrounded, fits_beside, surrounded}

pub bypasses : OwnInstructionsBypass
bypasses L p seen r fits own machine latched =
    is_free p.opcodes r.register.bits (plans_have_bits p fits.spelled).values own.small own.free machine.latched latched

all_beside : BuiltLaws → (L : LinkedView) (p : Plan) (seen : List PinSeen) (names : TapNames) (M : NetlistView) (first number : ℕ) (registers : List FittedRegister) → IsFitting L p seen
    → Surrounded L p seen names M first number registers → All (IsOwn L.arena.lists (device_of L p seen)) registers
    → All (λ (r : FittedRegister). FitsBeside L.arena.lists (device_of L p seen) (places_in M L.arena.lists (fitted_of L p seen)) (status_of r)) registers
all_beside laws L p seen names M first number registers fits scene own =
    let N : NetlistView = L.arena.lists in
    each_so (IsOwn N (device_of L p seen)) (λ (r : FittedRegister). FitsBeside N (device_of L p seen) (places_in M N (fitted_of L p seen)) (status_of r))
    (λ r mine. fits_beside laws L p seen names M fits scene.extends r mine) registers own

pub realises : BuiltLaws → SurroundedStatusRealises → StatusRealises
realises laws law L p seen names M registers fits laid dense own has =
    let N : NetlistView = L.arena.lists in
    let scene = surrounded laws L p seen names M registers fits laid dense has in
    let beside = all_beside laws L p seen names M has.first has.number registers fits scene own in
    law M N (device_of L p seen) (places_in M N (fitted_of L p seen)) (through_net N (fitted_of L p seen)) has.first has.number registers scene.around scene.holds beside has.controls

-- The core's cells are the same in both netlists, so a cell on a net of the controller is none of them.
added_in : (M O N : NetlistView) (f : Fitted) → IsInside M N f → IsInside O N f → IsControllerAdded O N (places_in O N f) → IsControllerAdded M N (places_in M N f)
added_in M O N f here there added s i cell live output = by_place (cell_at N i) refl
  where
    by_place : (o : Option CellView) → cell_at N i ≡ o → cell_at N i ≡ None
    by_place None e = e
    by_place (Some old) e =
        added s i cell (there.stands i old e ∙ sym (here.stands i old e) ∙ live) output

pub record HomeLaws : Type 0 where
  pub built : BuiltLaws
  pub added : StitchedLogicIsAdded
  pub holds : StitchedHoldsTheCore
  pub law : SurroundedStatusFindsHome

pub finds_home : HomeLaws → StatusFindsHome
finds_home laws L p seen names M registers fits laid dense own has =
    let N : NetlistView = L.arena.lists in
    let f : Fitted = fitted_of L p seen in
    let O : NetlistView = stitched N names f in
    let scene = surrounded laws.built L p seen names M registers fits laid dense has in
    let beside = all_beside laws.built L p seen names M has.first has.number registers fits scene own in
    let inside : IsInside M N f = (laws.built.built M N names f (through_net N f) dense scene.extends).core in
    let added : IsControllerAdded M N (places_in M N f)
    = added_in M O N f inside (laws.holds N names f dense) (controller_added laws.added L p seen names fits laid dense) in
    laws.law M N (device_of L p seen) (places_in M N f) (through_net N f) has.first has.number registers scene.around scene.holds beside added
