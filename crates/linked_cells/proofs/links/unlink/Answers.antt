use Rattle.linked_cells.proofs.Threads.{unlinked, neighbours_there, written_there, after_there, matched_there}
use Rattle.linked_cells.specs.Cells.{slot_at, first_at}
use Rattle.linked_cells.proofs.Writes.{found_on, const_loose}
use Rattle.linked_cells.proofs.links.unlink.Goals as goal

pub set_after-requires : goal.set_after-requires
set_after-requires c =
    let at = found_on c.args.cells.now.items c.args.reader c.args.net c.slot_of-found.result c.requires.on c.slot_of-found.ensures in
    let there = neighbours_there (slot_at c.args.cells.now.items) (first_at c.args.nets.now.items) c.args.net.0 c.args.reader c.slot_of-found.result.before c.slot_of-found.result.after c.requires.threaded at in
    matched_there (slot_at c.write_slot.new.cells.items) c.slot_of-found.result.before (λ r e. written_there (slot_at c.args.cells.now.items) (slot_at c.write_slot.new.cells.items) c.args.reader r _ c.write_slot.ensures.writes (there.0 r e))

pub set_before-requires : goal.set_before-requires
set_before-requires c =
    let at = found_on c.args.cells.now.items c.args.reader c.args.net c.slot_of-found.result c.requires.on c.slot_of-found.ensures in
    let there = neighbours_there (slot_at c.args.cells.now.items) (first_at c.args.nets.now.items) c.args.net.0 c.args.reader c.slot_of-found.result.before c.slot_of-found.result.after c.requires.threaded at in
    matched_there (slot_at c.set_after.new.cells.items) c.slot_of-found.result.after (λ r e. after_there (slot_at c.write_slot.new.cells.items) (slot_at c.set_after.new.cells.items) c.slot_of-found.result.before c.slot_of-found.result.after r
    c.set_after.ensures.sets (written_there (slot_at c.args.cells.now.items) (slot_at c.write_slot.new.cells.items) c.args.reader r _ c.write_slot.ensures.writes (there.1 r e)))

pub returns-clause-threaded : goal.returns-clause-threaded
returns-clause-threaded c =
    let at = found_on c.args.cells.now.items c.args.reader c.args.net c.slot_of-found.result c.requires.on c.slot_of-found.ensures in
    (unlinked (slot_at c.args.cells.now.items) (slot_at c.write_slot.new.cells.items) (slot_at c.set_after.new.cells.items) (slot_at c.set_before.new.cells.items) (first_at c.args.nets.now.items)
    (first_at c.pass_first.new.nets.items) c.args.net.0 c.args.reader c.slot_of-found.result.before c.slot_of-found.result.after _ c.requires.threaded at const_loose (rw c.loose.ensures at c.write_slot.ensures.writes) c.set_after.ensures.sets
    c.set_before.ensures.sets c.pass_first.ensures.sets).0

pub returns-clause-loose : goal.returns-clause-loose
returns-clause-loose c =
    let at = found_on c.args.cells.now.items c.args.reader c.args.net c.slot_of-found.result c.requires.on c.slot_of-found.ensures in
    record {
      slot = _;
      there = (unlinked (slot_at c.args.cells.now.items) (slot_at c.write_slot.new.cells.items) (slot_at c.set_after.new.cells.items) (slot_at c.set_before.new.cells.items) (first_at c.args.nets.now.items)
          (first_at c.pass_first.new.nets.items) c.args.net.0 c.args.reader c.slot_of-found.result.before c.slot_of-found.result.after _ c.requires.threaded at const_loose (rw c.loose.ensures at c.write_slot.ensures.writes) c.set_after.ensures.sets
          c.set_before.ensures.sets c.pass_first.ensures.sets).1;
      loose = const_loose;
    }
