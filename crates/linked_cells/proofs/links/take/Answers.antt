use Rattle.linked_cells.proofs.Threads.{loosely_written}
use Rattle.linked_cells.specs.Cells.{slot_at, first_at}
use Rattle.linked_cells.proofs.Writes.{const_loose}
use Rattle.linked_cells.proofs.Operands.{feed_found, found_const}
use Rattle.linked_cells.proofs.links.take.Goals as goal

pub unlink-requires-clause-net : goal.unlink-requires-clause-net
unlink-requires-clause-net c = c.requires.net c.in-Net.net (feed_found c.args.cells.now.items c.args.reader c.slot_of-found.result _ c.slot_of-found.ensures c.in-Net.is)

pub returns-in-Const-clause-threaded : goal.returns-in-Const-clause-threaded
returns-in-Const-clause-threaded c =
    loosely_written (slot_at c.args.cells.now.items) (slot_at c.write_slot.new.cells.items) (first_at c.args.nets.now.items) c.args.reader _ c.requires.threaded
    (found_const c.args.cells.now.items c.args.reader c.slot_of-found.result _ c.slot_of-found.ensures c.in-Const.is) const_loose (rw c.loose.ensures at c.write_slot.ensures.writes)
