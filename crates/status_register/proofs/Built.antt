-- The netlist that was stitched has what the laws of such netlists ask for.
use Rattle.std.proofs.Common.{◌≡◌, List, sym, ◌∙◌, ap, subst}
use Rattle.netlist_model.specs.Formed.{IsLaidOut, IsWellFormed}
use Rattle.netlist_model.specs.Lists.{NetlistView}
use Rattle.netlist_link.specs.Linked.{LinkedView}
use Rattle.plan_fitting.specs.declared.fitted.Fitted.{Fitted}
use Rattle.plan_fitting.specs.Devices.{fitted_of, device_of_fitted}
use Rattle.wrapped_chip.specs.Legal.{HasControls}
use Rattle.wrapped_chip.specs.Realises.{Alone}
use Rattle.stitched_netlist.specs.declared.model.TapNames.{TapNames}
use Rattle.stitched_netlist.proofs.PlacesLaws.{listed_at}
use Rattle.written_netlists.specs.Same.{IsSameNetlist}
use Rattle.status_fitting.specs.declared.fitted.FittedRegister.{FittedRegister}
use Rattle.status_gates.specs.Realises.{RealisesStatus}
use Rattle.status_stitch.specs.Built.{IsBuilt}
use Rattle.status_stitch.specs.BuiltLaws.{BuiltHasStatus, BuiltStatusRealises, BuiltStatusIsAlone, IsWholeStatus}
use Rattle.status_stitch.specs.Stitch.{CanStitchStatus, IsStitchedStatus}
use Rattle.status_stitch.specs.Stitched.{all_cells, stitched_status}

pub built_of : (M N : NetlistView) (tap : TapNames) (f : Fitted) (rs : List FittedRegister) → IsWellFormed M → IsSameNetlist M (stitched_status N tap f rs) → IsBuilt M N tap f rs
built_of M N tap f rs formed same = record {
  formed = formed;
  library = same.library;
  ports = same.ports;
  cells = λ k. same.cells k ∙ listed_at (all_cells N f rs) k;
}

lists_stay : (linked : LinkedView) (f : Fitted) (rs : List FittedRegister) (can : CanStitchStatus linked f rs) → linked.arena.lists ≡ can.before.arena.lists
lists_stay linked f rs can = ap (λ (K : LinkedView). K.arena.lists) can.prepared_is

-- the netlist before, and the one that was left
built_behind : (linked after : LinkedView) (f : Fitted) (rs : List FittedRegister) (can : CanStitchStatus linked f rs) (stitched : IsStitchedStatus linked after f rs)
    → IsBuilt after.arena.lists can.before.arena.lists stitched.tap (fitted_of can.before can.plan can.fitted.seen) rs
built_behind linked after f rs can stitched =
    let M : NetlistView = after.arena.lists in
    let made : IsBuilt M linked.arena.lists stitched.tap f rs = built_of M linked.arena.lists stitched.tap f rs stitched.linked.formed stitched.netlist in
    let here : IsBuilt M can.before.arena.lists stitched.tap f rs = subst (λ (N : NetlistView). IsBuilt M N stitched.tap f rs) (lists_stay linked f rs can) made in
    subst (λ (g : Fitted). IsBuilt M can.before.arena.lists stitched.tap g rs) can.fitted.is here

laid_out_before : (linked : LinkedView) (f : Fitted) (rs : List FittedRegister) (can : CanStitchStatus linked f rs) → IsLaidOut linked.arena.lists → IsLaidOut can.before.arena.lists
laid_out_before linked f rs can laid = subst IsLaidOut (lists_stay linked f rs can) laid

whole_of : (linked after : LinkedView) (f : Fitted) (rs : List FittedRegister) (can : CanStitchStatus linked f rs) (stitched : IsStitchedStatus linked after f rs) → IsLaidOut linked.arena.lists
    → IsWholeStatus can.before can.plan can.fitted.seen stitched.tap can.lines (record { registers = rs }) after.arena.lists
whole_of linked after f rs can stitched laid = record {
  fits = can.fitting;
  laid_out = laid_out_before linked f rs can laid;
  dense = can.dense;
  spelled = can.spelled;
  fitted_is = can.registers;
  faultless = can.faultless;
  built = built_behind linked after f rs can stitched;
}

pub realises_of : BuiltStatusRealises → (linked after : LinkedView) (f : Fitted) (rs : List FittedRegister) → CanStitchStatus linked f rs → IsStitchedStatus linked after f rs → IsLaidOut linked.arena.lists
    → RealisesStatus after.arena.lists (device_of_fitted f) linked.arena.lists rs
realises_of law linked after f rs can stitched laid =
    let M : NetlistView = after.arena.lists in
    let g : Fitted = fitted_of can.before can.plan can.fitted.seen in
    let made : RealisesStatus M (device_of_fitted g) can.before.arena.lists rs
    = law can.before can.plan can.fitted.seen stitched.tap can.lines (record { registers = rs }) M (whole_of linked after f rs can stitched laid) in
    let here : RealisesStatus M (device_of_fitted f) can.before.arena.lists rs
    = subst (λ (h : Fitted). RealisesStatus M (device_of_fitted h) can.before.arena.lists rs) (sym can.fitted.is) made in
    subst (λ (N : NetlistView). RealisesStatus M (device_of_fitted f) N rs) (sym (lists_stay linked f rs can)) here

pub alone_of : BuiltStatusIsAlone → (linked after : LinkedView) (f : Fitted) (rs : List FittedRegister) → CanStitchStatus linked f rs → IsStitchedStatus linked after f rs → IsLaidOut linked.arena.lists
    → Alone after.arena.lists (device_of_fitted f) linked.arena.lists
alone_of law linked after f rs can stitched laid =
    let M : NetlistView = after.arena.lists in
    let g : Fitted = fitted_of can.before can.plan can.fitted.seen in
    let made : Alone M (device_of_fitted g) can.before.arena.lists
    = law can.before can.plan can.fitted.seen stitched.tap can.lines (record { registers = rs }) M (whole_of linked after f rs can stitched laid) in
    let here : Alone M (device_of_fitted f) can.before.arena.lists
    = subst (λ (h : Fitted). Alone M (device_of_fitted h) can.before.arena.lists) (sym can.fitted.is) made in
    subst (λ (N : NetlistView). Alone M (device_of_fitted f) N) (sym (lists_stay linked f rs can)) here

pub controls_of : BuiltHasStatus → (linked after : LinkedView) (f : Fitted) (rs : List FittedRegister) → CanStitchStatus linked f rs → IsStitchedStatus linked after f rs → IsLaidOut linked.arena.lists
    → HasControls after.arena.lists linked.arena.lists
controls_of law linked after f rs can stitched laid =
    let M : NetlistView = after.arena.lists in
    let has = law can.before can.plan can.fitted.seen stitched.tap M rs can.fitting (laid_out_before linked f rs can laid) can.dense (built_behind linked after f rs can stitched) in
    subst (HasControls M) (sym (lists_stay linked f rs can)) has.controls
