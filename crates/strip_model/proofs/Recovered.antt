-- The netlist and the plan, recovered.
use Rattle.std.proofs.Common.{ℕ, ◌<◌, ◌^◌, List, length, refl, ◌∙◌, ap, Option, Some, option_map, arith}
use Rattle.std.specs.Prelude.{option_and_then}
use Rattle.verilog_tree.specs.declared.tree.Module.{Module}
use Rattle.bsdl_device.specs.declared.values.Device.{Device}
use Rattle.netlist_link.specs.Linked.{LinkedView}
use Rattle.netlist_link.proofs.Rewrites.{few_nets}
use Rattle.plan_texts.specs.declared.plan.Plan.{Plan}
use Rattle.plan_fitting.specs.declared.fitted.Fitted.{Fitted}
use Rattle.plan_fitting.specs.Pins.{PinSeen}
use Rattle.plan_fitting.specs.Devices.{fitted_of, device_of}
use Rattle.plan_fitting.specs.FittingPlan.{IsFitting}
use Rattle.plan_fitting.specs.DevicesLaws.{FittedIsFitting}
use Rattle.stitched_netlist.specs.Stitched.{stitched}
use Rattle.written_netlists.specs.Prepared.{room_of, ports_of, with_tap_names}
use Rattle.written_netlists.specs.Taken.{StitchedFitsRoom}
use Rattle.strip_model.specs.Laid.{LinkViewIsLaidOut}
use Rattle.strip_model.specs.declared.Side.{Side}
use Rattle.strip_model.specs.Sides.{sides}
use Rattle.strip_model.specs.Core.{core_module}
use Rattle.strip_model.specs.Recovered.{recovered_with, recovered}
use Rattle.strip_model.specs.NetlistsTold.{inserted_tree, told_sides, CoreIsTold}
use Rattle.strip_model.specs.PlansTold.{told_plan, PlanIsTold}
use Rattle.strip_model.specs.Gives.{Gives}
use Rattle.strip_model.specs.RecoveryLaw.{FittedCanBeTold, RecoveredIsTheNetlist}

pub fitting : FittedIsFitting → (m : Module) (L : LinkedView) (p : Plan) (inserted : Module) (d : Device) → (g : Gives m L p inserted d) → IsFitting L p g.at.fits.seen
fitting law m L p inserted d g =
    law m L p (fitted_of L p g.at.fits.seen) g.is g.listed g.links g.plan (record { seen = g.at.fits.seen; are_seen = g.at.fits.are_seen; faultless = g.at.fits.faultless; is = refl; straight = g.straight; ends = g.ends })

pub recovered_is : FittedIsFitting → FittedCanBeTold → CoreIsTold → PlanIsTold → StitchedFitsRoom → LinkViewIsLaidOut → RecoveredIsTheNetlist
recovered_is fits_law can_law core_law plan_law room_law laid_law m L p inserted d g =
    let seen : List PinSeen = g.at.fits.seen in
    let f : Fitted = fitted_of L p seen in
    let table : List (List ℕ) = with_tap_names f L.names in
    let fits = fitting fits_law m L p inserted d g in
    let room = few_nets L.arena.lists (room_of f) (room_of f) (ports_of f) g.at.room in
    let taken = (room_law L.arena.lists g.at.names f).nets in
    let few : length (stitched L.arena.lists g.at.names f).nets < 2 ^ 32 = omega (arith, room, taken) in
    let can = can_law m L p seen g.at.names g.links fits (laid_law m L g.is g.links) g.at.names_are few in
    let told = core_law L table g.at.names f p.prefix can in
    let plan = plan_law L p seen fits in
    let T : Module = inserted_tree L table g.at.names f p.prefix in
    let D : Device = device_of L p seen in
    let S : List Side = told_sides L table g.at.names f p.prefix in
    ap (λ (t : Module). recovered t d) g.at.inserted_is
    ∙ ap (recovered T) g.at.device_is
    ∙ ap (λ (o : Option (List ℕ)). option_and_then (λ (prefix : List ℕ). option_and_then (recovered_with T D prefix) (sides D.cells T.items)) o) told.prefix_is
    ∙ ap (λ (o : Option (List Side)). option_and_then (recovered_with T D p.prefix) o) told.sides_are
    ∙ ap (λ (o : Option Plan). option_map (λ (q : Plan). (core_module p.prefix S T, q)) o) plan
    ∙ ap (λ (t : Module). Some (t, told_plan L p seen)) told.core_is
