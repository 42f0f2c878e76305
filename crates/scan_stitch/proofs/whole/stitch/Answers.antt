use Rattle.std.proofs.Common.{◌≡◌, sym, ◌∙◌, subst}
use Rattle.netlist_model.specs.Formed.{IsLaidOut}
use Rattle.wrapped_chip.specs.Home.{FindsHome}
use Rattle.wrapped_chip.specs.Realises.{Realises, Alone}
use Rattle.plan_fitting.specs.Devices.{device_of_fitted}
use Rattle.netlist_arena.specs.Arena.{ArenaView}
use Rattle.stitched_netlist.specs.Stitched.{stitched}
use Rattle.written_netlists.specs.Same.{IsSameNetlist}
use Rattle.scan_stitch.specs.Stitched.{CanBeStitched, HasStitchRoom}
use Rattle.scan_stitch.proofs.Known.{names_entered, can_of, room_made, fits_room_at, named_of, formed_of}
use Rattle.scan_stitch.proofs.Runs.{realises_of, alone_of, home_of, alone_home_of}
use Rattle.scan_stitch.proofs.whole.stitch.Goals as goal

pub tap_names-names-requires : goal.tap_names-names-requires
tap_names-names-requires c = names_entered c.tap_names_are_entered.ensures c.args.linked.now c.args.fitted.now c.requires

pub stitch_netlist-built-requires-clause-can : goal.stitch_netlist-built-requires-clause-can
stitch_netlist-built-requires-clause-can c =
    let P : ArenaView → Type 0 = λ A. IsLaidOut A.lists in
    let laid = subst P c.netlist.ensures.netlist c.is_laid_out.ensures.laid_out in
    let same = c.netlist_mut.ensures.netlist ∙ c.begin_draft-draft.ensures.draft in
    let Q : ArenaView → Type 0 = λ A. CanBeStitched A.lists c.tap_names-names.result c.args.fitted.now in
    subst Q (sym same) (can_of c.fitted_can_stand_behind.ensures c.args.linked.now c.args.fitted.now c.tap_names-names.result c.requires laid)

pub stitch_netlist-built-requires-clause-room : goal.stitch_netlist-built-requires-clause-room
stitch_netlist-built-requires-clause-room c =
    let same = c.netlist_mut.ensures.netlist ∙ c.begin_draft-draft.ensures.draft in
    let Q : ArenaView → Type 0 = λ A. HasStitchRoom A c.args.fitted.now in
    subst Q (sym same) (room_made c.args.linked.now c.args.fitted.now c.requires)

pub close-requires-clause-formed : goal.close-requires-clause-formed
close-requires-clause-formed c =
    let P : ArenaView → Type 0 = λ A. IsLaidOut A.lists in
    let laid = subst P c.netlist.ensures.netlist c.is_laid_out.ensures.laid_out in
    let same = c.netlist_mut.ensures.netlist ∙ c.begin_draft-draft.ensures.draft in
    let R : ArenaView → Type 0 = λ A. IsSameNetlist c.stitch_netlist-built.new.netlist.lists (stitched A.lists c.tap_names-names.result c.args.fitted.now) in
    let made = subst R same c.stitch_netlist-built.ensures.stitched in
    formed_of c.grown_is_formed.ensures c.stitched_is_formed.ensures c.args.linked.now c.args.fitted.now c.tap_names-names.result c.stitch_netlist-built.new.netlist.lists c.requires laid made

pub close-requires-clause-named : goal.close-requires-clause-named
close-requires-clause-named c =
    let P : ArenaView → Type 0 = λ A. IsLaidOut A.lists in
    let laid = subst P c.netlist.ensures.netlist c.is_laid_out.ensures.laid_out in
    let same = c.netlist_mut.ensures.netlist ∙ c.begin_draft-draft.ensures.draft in
    let R : ArenaView → Type 0 = λ A. IsSameNetlist c.stitch_netlist-built.new.netlist.lists (stitched A.lists c.tap_names-names.result c.args.fitted.now) in
    let made = subst R same c.stitch_netlist-built.ensures.stitched in
    named_of c.same_is_named.ensures c.stitched_is_named.ensures c.args.linked.now c.args.fitted.now c.tap_names-names.result c.stitch_netlist-built.new.netlist.lists c.begin_draft-draft.new.self.names
    c.requires laid c.tap_names-names.ensures c.begin_draft-draft.ensures.names made

pub close-requires-clause-room : goal.close-requires-clause-room
close-requires-clause-room c =
    let same = c.netlist_mut.ensures.netlist ∙ c.begin_draft-draft.ensures.draft in
    fits_room_at c.args.linked.now c.args.fitted.now c.stitch_netlist-built.new.netlist.lists c.begin_draft-draft.new.self.room c.netlist_mut.result.now c.requires same c.begin_draft-draft.ensures.room
    c.stitch_netlist-built.ensures.nets c.stitch_netlist-built.ensures.cells

pub returns-clause-stitched : goal.returns-clause-stitched
returns-clause-stitched c =
    let same = c.netlist_mut.ensures.netlist ∙ c.begin_draft-draft.ensures.draft in
    let R : ArenaView → Type 0 = λ A. IsSameNetlist c.stitch_netlist-built.new.netlist.lists (stitched A.lists c.tap_names-names.result c.args.fitted.now) in
    let made = subst R same c.stitch_netlist-built.ensures.stitched in
    let S : ArenaView → Type 0 = λ A. IsSameNetlist A.lists (stitched c.args.linked.now.arena.lists c.tap_names-names.result c.args.fitted.now) in
    record {
      tap = c.tap_names-names.result;
      tap_is = c.tap_names-names.ensures;
      netlist = subst S (sym c.close.ensures.netlist) made;
      linked = c.close.ensures.linked;
      names = c.close.ensures.names ∙ c.begin_draft-draft.ensures.names;
      title = c.close.ensures.module_name ∙ c.begin_draft-draft.ensures.module_name;
      marks = record {
        straight = c.close.ensures.marks.straight ∙ c.begin_draft-draft.ensures.marks.straight;
        inner = c.close.ensures.marks.inner ∙ c.begin_draft-draft.ensures.marks.inner;
        rails = c.close.ensures.marks.rails ∙ c.begin_draft-draft.ensures.marks.rails;
      };
    }

pub returns-clause-realises : goal.returns-clause-realises
returns-clause-realises c =
    let P : ArenaView → Type 0 = λ A. IsLaidOut A.lists in
    let laid = subst P c.netlist.ensures.netlist c.is_laid_out.ensures.laid_out in
    let same = c.netlist_mut.ensures.netlist ∙ c.begin_draft-draft.ensures.draft in
    let R : ArenaView → Type 0 = λ A. IsSameNetlist c.stitch_netlist-built.new.netlist.lists (stitched A.lists c.tap_names-names.result c.args.fitted.now) in
    let made = subst R same c.stitch_netlist-built.ensures.stitched in
    let S : ArenaView → Type 0 = λ A. Realises A.lists (device_of_fitted c.args.fitted.now) c.args.linked.now.arena.lists in
    subst S (sym c.close.ensures.netlist)
    (realises_of c.stitched_is_formed.ensures c.fitting_plans_realise.ensures c.same_realises.ensures c.args.linked.now c.args.fitted.now c.tap_names-names.result c.stitch_netlist-built.new.netlist.lists c.requires laid made)

pub returns-clause-alone : goal.returns-clause-alone
returns-clause-alone c =
    let P : ArenaView → Type 0 = λ A. IsLaidOut A.lists in
    let laid = subst P c.netlist.ensures.netlist c.is_laid_out.ensures.laid_out in
    let same = c.netlist_mut.ensures.netlist ∙ c.begin_draft-draft.ensures.draft in
    let R : ArenaView → Type 0 = λ A. IsSameNetlist c.stitch_netlist-built.new.netlist.lists (stitched A.lists c.tap_names-names.result c.args.fitted.now) in
    let made = subst R same c.stitch_netlist-built.ensures.stitched in
    let S : ArenaView → Type 0 = λ A. Alone A.lists (device_of_fitted c.args.fitted.now) c.args.linked.now.arena.lists in
    subst S (sym c.close.ensures.netlist)
    (alone_of c.stitched_is_formed.ensures c.fitting_plans_are_alone.ensures c.same_is_alone.ensures c.args.linked.now c.args.fitted.now c.tap_names-names.result c.stitch_netlist-built.new.netlist.lists c.requires laid made)

pub returns-clause-finds_home : goal.returns-clause-finds_home
returns-clause-finds_home c =
    let P : ArenaView → Type 0 = λ A. IsLaidOut A.lists in
    let laid = subst P c.netlist.ensures.netlist c.is_laid_out.ensures.laid_out in
    let same = c.netlist_mut.ensures.netlist ∙ c.begin_draft-draft.ensures.draft in
    let R : ArenaView → Type 0 = λ A. IsSameNetlist c.stitch_netlist-built.new.netlist.lists (stitched A.lists c.tap_names-names.result c.args.fitted.now) in
    let made = subst R same c.stitch_netlist-built.ensures.stitched in
    let S : ArenaView → Type 0 = λ A. FindsHome A.lists (device_of_fitted c.args.fitted.now) c.args.linked.now.arena.lists in
    subst S (sym c.close.ensures.netlist)
    (home_of c.stitched_is_formed.ensures c.stitched_keeps.ensures c.fitting_plans_find_home.ensures c.same_finds_home.ensures c.args.linked.now c.args.fitted.now c.tap_names-names.result
    c.stitch_netlist-built.new.netlist.lists c.requires laid made)

pub returns-clause-alone_from_home : goal.returns-clause-alone_from_home
returns-clause-alone_from_home c =
    alone_home_of c.plans_suit_netlists.ensures c.home_is_alone.ensures c.args.linked.now c.args.fitted.now _ c.requires
