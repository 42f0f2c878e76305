-- What the stitched netlist owes goes through the new numbers of the written one.
use Rattle.std.proofs.Common.{◌≡◌, sym, subst}
use Rattle.list_laws.proofs.Options.{is_there}
use Rattle.verilog_tree.specs.declared.tree.Module.{Module}
use Rattle.netlist_model.specs.Lists.{NetlistView, cell_at}
use Rattle.netlist_model.specs.Formed.{IsLaidOut, IsWellFormed}
use Rattle.netlist_link.specs.Linked.{LinkedView}
use Rattle.netlist_link.specs.Links.{IsLinkOf}
use Rattle.core_sides.specs.netlist_unlink.Renumbered.{IsWrittenAs}
use Rattle.wrapped_chip.specs.Realises.{Realises, Alone}
use Rattle.wrapped_chip.specs.Legal.{HasControls}
use Rattle.wrapped_chip.specs.Home.{FindsHome, HomeIsAlone}
use Rattle.wrapped_chip.specs.CopiesLaws.{KeepsNumbers, RenumberedRealises, RenumberedAlone, RenumberedControls, RenumberedFindsHome}
use Rattle.plan_texts.specs.declared.plan.Plan.{Plan}
use Rattle.core_sides.specs.plan_fitting.declared.fitted.Fitted.{Fitted}
use Rattle.core_sides.specs.plan_fitting.Devices.{device_of}
use Rattle.core_sides.specs.plan_fitting.FittingPlan.{IsFitting}
use Rattle.core_sides.specs.plan_fitting.DevicesLaws.{FittedIsFitting, PlansSuitNetlists}
use Rattle.core_sides.specs.stitched_netlist.declared.model.TapNames.{TapNames}
use Rattle.core_sides.specs.stitched_netlist.Stitched.{stitched}
use Rattle.core_sides.specs.stitched_netlist.Places.{StitchedKeeps}
use Rattle.written_netlists.specs.ModulesLaws.{IsStitching, StitchedIsRenumbered}
use Rattle.written_netlists.specs.Written.{IsNumberedAnew}
use Rattle.core_sides.specs.stitched_netlist.FormedLaws.{StitchedIsFormed}
use Rattle.core_sides.specs.stitched_netlist.RunsLaws.{FittingPlansRealise, FittingPlansAreAlone, FittingPlansHaveControls, FittingPlansFindHome}
use Rattle.written_netlists.specs.RunsLaws.{WrittenRealises, WrittenIsAlone, WrittenHasControls, WrittenFindsHome, WrittenIsAloneFromHome}

-- what is known of it on the way
record Steps (L : LinkedView) (p : Plan) (f : Fitted) (names : TapNames) (M : NetlistView) : Type 0 where
  formed : IsWellFormed (stitched L.arena.lists names f)
  anew : IsNumberedAnew (stitched L.arena.lists names f) M
  stay : KeepsNumbers L.arena.lists anew.at

steps : FittedIsFitting → StitchedIsFormed → StitchedIsRenumbered → StitchedKeeps → (m : Module) (L : LinkedView) (p : Plan) (f : Fitted) (after : LinkedView) (s : IsStitching m L p f after) → IsLaidOut after.arena.lists
    → (tree : Module) → IsWrittenAs after p.prefix tree → (written : LinkedView) → written.arena.lists.library ≡ L.arena.lists.library → IsLinkOf tree written → Steps L p f s.is.names written.arena.lists
steps fitting formed renumbered keeps m L p f after s laid tree writes written listed link =
    let fits : IsFitting L p s.fits.seen = fitting m L p f s.tree s.listed s.linked s.plan s.fits in
    let names = s.is.names in
    let kept = keeps L.arena.lists names f s.linked.dense in
    let anew = renumbered L f after s.is p.prefix tree laid writes written listed link in
    record {
      formed = subst (λ (g : Fitted). IsWellFormed (stitched L.arena.lists names g)) (sym s.fits.is) (formed L p s.fits.seen names fits s.laid s.linked.dense);
      anew = anew;
      stay = λ i cell live. let k = kept.cells i cell live in anew.stay i (is_there (cell_at (stitched L.arena.lists names f) i) k.found k.there);
    }

pub written_realises : FittedIsFitting → StitchedIsFormed → StitchedIsRenumbered → StitchedKeeps → FittingPlansRealise → RenumberedRealises → WrittenRealises
written_realises fitting formed renumbered keeps realises copies m L p f after s laid tree writes written listed link =
    let fits : IsFitting L p s.fits.seen = fitting m L p f s.tree s.listed s.linked s.plan s.fits in
    let names = s.is.names in
    let t = steps fitting formed renumbered keeps m L p f after s laid tree writes written listed link in
    copies (stitched L.arena.lists names f) written.arena.lists L.arena.lists (device_of L p s.fits.seen) t.anew.to t.anew.at t.anew.is t.formed t.stay
    (subst (λ (g : Fitted). Realises (stitched L.arena.lists names g) (device_of L p s.fits.seen) L.arena.lists) (sym s.fits.is)
    (realises L p s.fits.seen names fits s.laid s.linked.dense))

pub written_is_alone : FittedIsFitting → StitchedIsFormed → StitchedIsRenumbered → StitchedKeeps → FittingPlansAreAlone → RenumberedAlone → WrittenIsAlone
written_is_alone fitting formed renumbered keeps alone copies m L p f after s laid tree writes written listed link =
    let fits : IsFitting L p s.fits.seen = fitting m L p f s.tree s.listed s.linked s.plan s.fits in
    let names = s.is.names in
    let t = steps fitting formed renumbered keeps m L p f after s laid tree writes written listed link in
    copies (stitched L.arena.lists names f) written.arena.lists L.arena.lists (device_of L p s.fits.seen) t.anew.to t.anew.at t.anew.is t.formed t.stay
    (subst (λ (g : Fitted). Alone (stitched L.arena.lists names g) (device_of L p s.fits.seen) L.arena.lists) (sym s.fits.is)
    (alone L p s.fits.seen names fits s.laid s.linked.dense))

pub written_has_controls : FittedIsFitting → StitchedIsRenumbered → FittingPlansHaveControls → RenumberedControls → WrittenHasControls
written_has_controls fitting renumbered controls copies m L p f after s laid tree writes written listed link =
    let fits : IsFitting L p s.fits.seen = fitting m L p f s.tree s.listed s.linked s.plan s.fits in
    let names = s.is.names in
    let anew = renumbered L f after s.is p.prefix tree laid writes written listed link in
    copies (stitched L.arena.lists names f) written.arena.lists L.arena.lists anew.to anew.at anew.is
    (subst (λ (g : Fitted). HasControls (stitched L.arena.lists names g) L.arena.lists) (sym s.fits.is)
    (controls L p s.fits.seen names fits s.laid s.linked.dense))

pub written_finds_home : FittedIsFitting → StitchedIsFormed → StitchedIsRenumbered → StitchedKeeps → FittingPlansFindHome → RenumberedFindsHome → WrittenFindsHome
written_finds_home fitting formed renumbered keeps finds copies m L p f after s laid tree writes written listed link =
    let fits : IsFitting L p s.fits.seen = fitting m L p f s.tree s.listed s.linked s.plan s.fits in
    let names = s.is.names in
    let t = steps fitting formed renumbered keeps m L p f after s laid tree writes written listed link in
    let kept = keeps L.arena.lists names f s.linked.dense in
    copies (stitched L.arena.lists names f) written.arena.lists L.arena.lists (device_of L p s.fits.seen) t.anew.to t.anew.at t.anew.is t.formed
    (λ i cell live. let k = kept.cells i cell live in (k.found, k.there)) t.stay
    (subst (λ (g : Fitted). FindsHome (stitched L.arena.lists names g) (device_of L p s.fits.seen) L.arena.lists) (sym s.fits.is)
    (finds L p s.fits.seen names fits s.laid s.linked.dense))

pub written_is_alone_from_home : FittedIsFitting → PlansSuitNetlists → HomeIsAlone → WrittenIsAloneFromHome
written_is_alone_from_home fitting suit alone m L p f after s laid tree writes written listed link =
    let fits : IsFitting L p s.fits.seen = fitting m L p f s.tree s.listed s.linked s.plan s.fits in
    alone written.arena.lists (device_of L p s.fits.seen) L.arena.lists fits.formed (suit L p s.fits.seen fits)
