use Rattle.std.proofs.Common.{◌≡◌, ℕ, List, sym, ◌∙◌, subst}
use Rattle.netlist_model.specs.Formed.{IsLaidOut, IsWellFormed}
use Rattle.netlist_arena.specs.Arena.{ArenaView}
use Rattle.netlist_link.specs.WellNamed.{IsWellNamed}
use Rattle.stitched_netlist.specs.Stitched.{stitched}
use Rattle.written_netlists.specs.Same.{IsSameNetlist}
use Rattle.status_room.specs.scan_stitch.Stitched.{CanBeStitched}
use Rattle.status_room.specs.Needed.{AreBuildable}
use Rattle.status_room.specs.Ready.{HasStatusRoom}
use Rattle.status_stitch.specs.Stitched.{stitched_status}
use Rattle.status_stitch.proofs.Known.{status_names_entered, status_can, status_buildable, base_formed, base_named, status_room_made, status_fits}
use Rattle.status_stitch.proofs.whole.stitch_registers.Goals as goal

pub tap_names-names-requires : goal.tap_names-names-requires
tap_names-names-requires c = status_names_entered c.tap_names_are_entered.ensures c.args.linked.now c.args.fitted.now c.args.registers.now c.requires

pub status_netlist-requires-clause-can : goal.status_netlist-requires-clause-can
status_netlist-requires-clause-can c =
    let P : ArenaView → Type 0 = λ A. IsLaidOut A.lists in
    let laid = subst P c.netlist.ensures.netlist c.is_laid_out.ensures.laid_out in
    let same = c.netlist_mut.ensures.netlist ∙ c.begin_draft-draft.ensures.draft in
    let Q : ArenaView → Type 0 = λ A. CanBeStitched A.lists c.tap_names-names.result c.args.fitted.now in
    subst Q (sym same) (status_can c.fitted_can_stand_behind.ensures c.args.linked.now c.args.fitted.now c.args.registers.now c.tap_names-names.result c.requires laid)

pub status_netlist-requires-clause-buildable : goal.status_netlist-requires-clause-buildable
status_netlist-requires-clause-buildable c =
    let same = c.netlist_mut.ensures.netlist ∙ c.begin_draft-draft.ensures.draft in
    let Q : ArenaView → Type 0 = λ A. AreBuildable A.lists c.args.fitted.now c.args.registers.now in
    subst Q (sym same) (status_buildable c.fitted_registers_can_be_built.ensures c.args.linked.now c.args.fitted.now c.args.registers.now c.requires)

pub status_netlist-requires-clause-room : goal.status_netlist-requires-clause-room
status_netlist-requires-clause-room c =
    let same = c.netlist_mut.ensures.netlist ∙ c.begin_draft-draft.ensures.draft in
    let Q : ArenaView → Type 0 = λ A. HasStatusRoom A c.args.fitted.now c.args.registers.now in
    subst Q (sym same) (status_room_made c.args.linked.now c.args.fitted.now c.args.registers.now c.requires)

pub close-requires-clause-formed : goal.close-requires-clause-formed
close-requires-clause-formed c =
    let P : ArenaView → Type 0 = λ A. IsLaidOut A.lists in
    let laid = subst P c.netlist.ensures.netlist c.is_laid_out.ensures.laid_out in
    let same = c.netlist_mut.ensures.netlist ∙ c.begin_draft-draft.ensures.draft in
    let R : ArenaView → Type 0 = λ A. IsWellFormed (stitched A.lists c.tap_names-names.result c.args.fitted.now) → IsWellFormed c.status_netlist.new.netlist.lists in
    let formed : IsWellFormed (stitched c.args.linked.now.arena.lists c.tap_names-names.result c.args.fitted.now) → IsWellFormed c.status_netlist.new.netlist.lists
    = subst R same c.status_netlist.ensures.formed in
    formed
    (base_formed c.grown_is_formed.ensures c.stitched_is_formed.ensures c.args.linked.now c.args.fitted.now c.args.registers.now c.tap_names-names.result c.requires laid)

pub close-requires-clause-named : goal.close-requires-clause-named
close-requires-clause-named c =
    let P : ArenaView → Type 0 = λ A. IsLaidOut A.lists in
    let laid = subst P c.netlist.ensures.netlist c.is_laid_out.ensures.laid_out in
    let same = c.netlist_mut.ensures.netlist ∙ c.begin_draft-draft.ensures.draft in
    let R : ArenaView → Type 0 = λ A. (table : List (List ℕ)) → IsWellNamed table (stitched A.lists c.tap_names-names.result c.args.fitted.now) → IsWellNamed table c.status_netlist.new.netlist.lists in
    let named : (table : List (List ℕ)) → IsWellNamed table (stitched c.args.linked.now.arena.lists c.tap_names-names.result c.args.fitted.now)
    → IsWellNamed table c.status_netlist.new.netlist.lists
    = subst R same c.status_netlist.ensures.named in
    let base = base_named c.same_is_named.ensures c.stitched_is_named.ensures c.args.linked.now c.args.fitted.now c.args.registers.now c.tap_names-names.result c.requires laid c.tap_names-names.ensures in
    subst (λ (table : List (List ℕ)). IsWellNamed table c.status_netlist.new.netlist.lists) (sym c.begin_draft-draft.ensures.names) (named c.args.linked.now.names base)

pub close-requires-clause-room : goal.close-requires-clause-room
close-requires-clause-room c =
    let same = c.netlist_mut.ensures.netlist ∙ c.begin_draft-draft.ensures.draft in
    status_fits c.args.linked.now c.args.fitted.now c.args.registers.now c.status_netlist.new.netlist.lists c.begin_draft-draft.new.self.room c.netlist_mut.result.now c.requires same c.begin_draft-draft.ensures.room
    c.status_netlist.ensures.nets c.status_netlist.ensures.cells

pub returns : goal.returns
returns c =
    let same = c.netlist_mut.ensures.netlist ∙ c.begin_draft-draft.ensures.draft in
    let R : ArenaView → Type 0 = λ A. IsSameNetlist c.status_netlist.new.netlist.lists (stitched_status A.lists c.tap_names-names.result c.args.fitted.now c.args.registers.now) in
    let made = subst R same c.status_netlist.ensures.built in
    let S : ArenaView → Type 0 = λ A. IsSameNetlist A.lists (stitched_status c.args.linked.now.arena.lists c.tap_names-names.result c.args.fitted.now c.args.registers.now) in
    record {
      tap = c.tap_names-names.result;
      tap_is = c.tap_names-names.ensures;
      netlist = subst S (sym c.close.ensures.netlist) made;
      linked = c.close.ensures.linked;
      names = c.close.ensures.names ∙ c.begin_draft-draft.ensures.names;
      title = c.close.ensures.module_name ∙ c.begin_draft-draft.ensures.module_name;
      marks = record {
        straight = c.close.ensures.marks.straight ∙ c.begin_draft-draft.ensures.marks.straight;
        inner = c.close.ensures.marks.inner ∙ c.begin_draft-draft.ensures.marks.inner;
        rails = c.close.ensures.marks.rails ∙ c.begin_draft-draft.ensures.marks.rails;
      };
    }
