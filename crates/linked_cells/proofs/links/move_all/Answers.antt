use Rattle.std.proofs.Common.{◌∙◌, sym}
use Rattle.linked_cells.proofs.Threads.{first_there, after_there, matched_there}
use Rattle.linked_cells.proofs.Moves.{moving_start, moving_last, moving_keeps, moving_joined}
use Rattle.linked_cells.specs.Cells.{slot_at, first_at, slot_count, all_readers}
use Rattle.linked_cells.proofs.Writes.{kept_there}
use Rattle.linked_cells.proofs.Feeds.{stands_among_all, cells_moved}
use Rattle.linked_cells.proofs.links.move_all.Goals as goal

pub turn_all-last-requires-clause-walk : goal.turn_all-last-requires-clause-walk
unfolding slot_count
turn_all-last-requires-clause-walk c =
    let started = moving_start (slot_at c.args.cells.now.items) (first_at c.args.nets.now.items) c.args.from.0 c.args.to.0 (all_readers 0 c.args.cells.now.items) c.requires.threaded (stands_among_all c.args.cells.now.items) in
    rw c.first-start.ensures started

pub set_after-requires : goal.set_after-requires
set_after-requires c =
    matched_there (slot_at c.turn_all-last.new.cells.items) c.turn_all-last.result (λ r e. moving_last (slot_at c.args.cells.now.items) (slot_at c.turn_all-last.new.cells.items) c.args.from.0 c.args.to.0 c.first-start.result _
    c.turn_all-last.result (slot_count c.args.cells.now.items) r c.turn_all-last.ensures.walk e)

pub set_before-requires : goal.set_before-requires
set_before-requires c =
    matched_there (slot_at c.set_after.new.cells.items) c.first-next.result (λ r e. after_there (slot_at c.turn_all-last.new.cells.items) (slot_at c.set_after.new.cells.items) c.turn_all-last.result c.first-next.result r
    c.set_after.ensures.sets (moving_keeps (slot_at c.args.cells.now.items) (slot_at c.turn_all-last.new.cells.items) c.args.from.0 c.args.to.0 c.first-start.result _ c.turn_all-last.result (slot_count c.args.cells.now.items) r
    c.turn_all-last.ensures.walk (first_there (slot_at c.args.cells.now.items) (first_at c.args.nets.now.items) c.args.to.0 r c.requires.threaded (sym c.first-next.ensures ∙ e))))

pub set_first-requires-2 : goal.set_first-requires-2
set_first-requires-2 c = kept_there c.args.nets.now.items c.set_first.new.nets.items c.args.to.0 c.set_first.ensures.nets c.requires.to

pub returns-clause-threaded : goal.returns-clause-threaded
returns-clause-threaded c =
    (moving_joined (slot_at c.args.cells.now.items) (slot_at c.turn_all-last.new.cells.items) (slot_at c.set_after.new.cells.items) (slot_at c.set_before.new.cells.items) (first_at c.args.nets.now.items)
    (first_at c.set_first.new.nets.items) (first_at c.set_first-2.new.nets.items) c.args.from.0 c.args.to.0 c.turn_all-last.result (slot_count c.args.cells.now.items) c.requires.threaded c.requires.differ
    (rw c.first-start.ensures at c.turn_all-last.ensures.walk) (rw c.first-next.ensures at c.set_after.ensures.sets) (rw c.first-next.ensures at c.set_before.ensures.sets) (rw c.none.ensures at c.set_first.ensures.writes)
    (rw (c.or.ensures, c.first-start.ensures, c.first-next.ensures) at c.set_first-2.ensures.writes)).0

pub returns-clause-cells : goal.returns-clause-cells
returns-clause-cells c =
    let moved = (moving_joined (slot_at c.args.cells.now.items) (slot_at c.turn_all-last.new.cells.items) (slot_at c.set_after.new.cells.items) (slot_at c.set_before.new.cells.items) (first_at c.args.nets.now.items)
    (first_at c.set_first.new.nets.items) (first_at c.set_first-2.new.nets.items) c.args.from.0 c.args.to.0 c.turn_all-last.result (slot_count c.args.cells.now.items) c.requires.threaded c.requires.differ
    (rw c.first-start.ensures at c.turn_all-last.ensures.walk) (rw c.first-next.ensures at c.set_after.ensures.sets) (rw c.first-next.ensures at c.set_before.ensures.sets) (rw c.none.ensures at c.set_first.ensures.writes)
    (rw (c.or.ensures, c.first-start.ensures, c.first-next.ensures) at c.set_first-2.ensures.writes)).1 in
    cells_moved c.args.from c.args.to c.args.cells.now.items c.set_before.new.cells.items (c.set_before.ensures.shapes ∙ c.set_after.ensures.shapes ∙ c.turn_all-last.ensures.shapes) moved
