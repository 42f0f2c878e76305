use Rattle.linked_cells.proofs.Threads.{loosely_written}
use Rattle.linked_cells.specs.Cells.{slot_at, first_at}
use Rattle.linked_cells.proofs.Writes.{found_loose}
use Rattle.linked_cells.proofs.links.give.Goals as goal

pub returns-in-Const-clause-threaded : goal.returns-in-Const-clause-threaded
returns-in-Const-clause-threaded c =
    loosely_written (slot_at c.args.cells.now.items) (slot_at c.write_slot.new.cells.items) (first_at c.args.nets.now.items) c.args.reader _ c.requires.threaded
    (found_loose c.args.cells.now.items c.args.reader c.requires.loose) (λ n e. cc) (rw c.loose.ensures at c.write_slot.ensures.writes)
