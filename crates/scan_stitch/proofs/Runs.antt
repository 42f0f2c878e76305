-- How the netlist with the test logic behaves, whose lists are those that were stitched.
use Rattle.std.proofs.Common.{◌≡◌, ℕ, sym, ◌∙◌, subst}
use Rattle.netlist_model.specs.Formed.{IsLaidOut, IsWellFormed}
use Rattle.netlist_model.specs.Lists.{NetlistView, cell_at}
use Rattle.netlist_link.specs.Linked.{LinkedView}
use Rattle.bsdl_device.specs.declared.values.Device.{Device}
use Rattle.wrapped_chip.specs.Home.{FindsHome, AloneFromHome, HomeIsAlone}
use Rattle.wrapped_chip.specs.Realises.{Realises, Alone}
use Rattle.wrapped_chip.specs.CopiesLaws.{HasNumbers, SameRealises, SameAlone, SameFindsHome}
use Rattle.plan_fitting.specs.declared.fitted.Fitted.{Fitted}
use Rattle.plan_fitting.specs.Devices.{fitted_of, device_of, device_of_fitted}
use Rattle.plan_fitting.specs.DevicesLaws.{PlansSuitNetlists}
use Rattle.stitched_netlist.specs.declared.model.TapNames.{TapNames}
use Rattle.stitched_netlist.specs.Stitched.{stitched}
use Rattle.stitched_netlist.specs.Places.{StitchedKeeps}
use Rattle.written_netlists.specs.Same.{IsSameNetlist}
use Rattle.stitched_netlist.specs.FormedLaws.{StitchedIsFormed}
use Rattle.stitched_netlist.specs.RunsLaws.{FittingPlansRealise, FittingPlansAreAlone, FittingPlansFindHome}
use Rattle.scan_stitch.specs.Stitch.{CanStitch}
use Rattle.scan_stitch.proofs.Known.{lists_before, laid_before, stitched_same}

-- What holds of a netlist, of a device and of a core: it realises, or is alone.

-- the netlist and the device as they were found
found : (P : NetlistView → Device → NetlistView → Type 0) (linked : LinkedView) (f : Fitted) (new : NetlistView) (can : CanStitch linked f)
    → P new (device_of can.before can.plan can.fitted.seen) can.before.arena.lists → P new (device_of_fitted f) linked.arena.lists
found P linked f new can holds =
    let B : Device = device_of can.before can.plan can.fitted.seen in
    subst (λ (g : Fitted). P new (device_of_fitted g) linked.arena.lists) (sym can.fitted.is)
    (subst (λ (N : NetlistView). P new B N) (sym (lists_before linked f can)) holds)

-- of the netlist as it was stitched, so of the one with the same library, ports and cells
carried : (P : NetlistView → Device → NetlistView → Type 0)
    → ((M M' N : NetlistView) (B : Device) → M.library ≡ M'.library → M.ports ≡ M'.ports → ((i : ℕ) → cell_at M i ≡ cell_at M' i) → IsWellFormed M → P M B N → P M' B N) → StitchedIsFormed
    → (linked : LinkedView) (f : Fitted) (names : TapNames) (new : NetlistView) (can : CanStitch linked f) → IsLaidOut linked.arena.lists → IsSameNetlist new (stitched linked.arena.lists names f)
    → P (stitched can.before.arena.lists names (fitted_of can.before can.plan can.fitted.seen)) (device_of can.before can.plan can.fitted.seen) can.before.arena.lists
    → P new (device_of_fitted f) linked.arena.lists
carried P law formed linked f names new can laid is holds =
    let L : LinkedView = can.before in
    let whole : NetlistView = stitched L.arena.lists names (fitted_of L can.plan can.fitted.seen) in
    let well : IsWellFormed whole = formed L can.plan can.fitted.seen names can.fitting (laid_before linked f can laid) can.dense in
    let same : IsSameNetlist new whole = subst (IsSameNetlist new) (stitched_same linked f names can) is in
    found P linked f new can (law whole new L.arena.lists (device_of L can.plan can.fitted.seen) (sym same.library) (sym same.ports) (λ i. sym (same.cells i)) well holds)

pub realises_of : StitchedIsFormed → FittingPlansRealise → SameRealises → (linked : LinkedView) (f : Fitted) (names : TapNames) (new : NetlistView) → CanStitch linked f → IsLaidOut linked.arena.lists
    → IsSameNetlist new (stitched linked.arena.lists names f) → Realises new (device_of_fitted f) linked.arena.lists
realises_of formed realise same linked f names new can laid is =
    carried Realises same formed linked f names new can laid is (realise can.before can.plan can.fitted.seen names can.fitting (laid_before linked f can laid) can.dense)

pub alone_of : StitchedIsFormed → FittingPlansAreAlone → SameAlone → (linked : LinkedView) (f : Fitted) (names : TapNames) (new : NetlistView) → CanStitch linked f → IsLaidOut linked.arena.lists
    → IsSameNetlist new (stitched linked.arena.lists names f) → Alone new (device_of_fitted f) linked.arena.lists
alone_of formed alone same linked f names new can laid is =
    carried Alone same formed linked f names new can laid is (alone can.before can.plan can.fitted.seen names can.fitting (laid_before linked f can laid) can.dense)

-- it has a cell under each number of the core's, and finds home
record HasHome (M : NetlistView) (B : Device) (N : NetlistView) : Type 0 where
  pub numbers : HasNumbers M N
  pub finds : FindsHome M B N

same_home : SameFindsHome → (M M' N : NetlistView) (B : Device) → M.library ≡ M'.library → M.ports ≡ M'.ports → ((i : ℕ) → cell_at M i ≡ cell_at M' i) → IsWellFormed M → HasHome M B N → HasHome M' B N
same_home same M M' N B library ports cells formed home = record {
  numbers = λ i cell live. let there = home.numbers i cell live in (there.0, sym (cells i) ∙ there.1);
  finds = same M M' N B library ports cells formed home.numbers home.finds;
}

pub home_of : StitchedIsFormed → StitchedKeeps → FittingPlansFindHome → SameFindsHome → (linked : LinkedView) (f : Fitted) (names : TapNames) (new : NetlistView) → CanStitch linked f
    → IsLaidOut linked.arena.lists → IsSameNetlist new (stitched linked.arena.lists names f) → FindsHome new (device_of_fitted f) linked.arena.lists
home_of formed keeps find same linked f names new can laid is =
    let L : LinkedView = can.before in
    let kept = keeps L.arena.lists names (fitted_of L can.plan can.fitted.seen) can.dense in
    let home : HasHome (stitched L.arena.lists names (fitted_of L can.plan can.fitted.seen)) (device_of L can.plan can.fitted.seen) L.arena.lists = record {
      numbers = λ i cell live. let there = kept.cells i cell live in (there.found, there.there);
      finds = find L can.plan can.fitted.seen names can.fitting (laid_before linked f can laid) can.dense;
    } in
    let made : HasHome new (device_of_fitted f) linked.arena.lists = carried HasHome (same_home same) formed linked f names new can laid is home in made.finds

pub alone_home_of : PlansSuitNetlists → HomeIsAlone → (linked : LinkedView) (f : Fitted) (new : NetlistView) → CanStitch linked f → AloneFromHome new (device_of_fitted f) linked.arena.lists
alone_home_of suit alone linked f new can =
    let L : LinkedView = can.before in
    found AloneFromHome linked f new can
    (alone new (device_of L can.plan can.fitted.seen) L.arena.lists can.fitting.formed (suit L can.plan can.fitted.seen can.fitting))
