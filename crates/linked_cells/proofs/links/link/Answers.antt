use Rattle.std.proofs.Common.{sym, ◌∙◌}
use Rattle.linked_cells.proofs.Threads.{linked, first_there, written_there, matched_there}
use Rattle.linked_cells.specs.Cells.{slot_at, first_at}
use Rattle.linked_cells.proofs.Writes.{found_loose}
use Rattle.linked_cells.proofs.links.link.Goals as goal

pub set_before-requires : goal.set_before-requires
set_before-requires c =
    matched_there (slot_at c.write_slot.new.cells.items) c.first-next.result (λ r e. written_there (slot_at c.args.cells.now.items) (slot_at c.write_slot.new.cells.items) c.args.reader r _ c.write_slot.ensures.writes
    (first_there (slot_at c.args.cells.now.items) (first_at c.args.nets.now.items) c.args.net.0 r c.requires.threaded (sym c.first-next.ensures ∙ e)))

pub returns-clause-threaded : goal.returns-clause-threaded
returns-clause-threaded c =
    linked (slot_at c.args.cells.now.items) (slot_at c.write_slot.new.cells.items) (slot_at c.set_before.new.cells.items) (first_at c.args.nets.now.items) (first_at c.set_first.new.nets.items) c.args.net.0 c.args.reader
    c.requires.threaded (found_loose c.args.cells.now.items c.args.reader c.requires.loose) (rw (c.none.ensures, c.first-next.ensures) at c.write_slot.ensures.writes) (rw (c.first-next.ensures, c.link_to-link.ensures) at c.set_before.ensures.sets)
    (rw c.link_to-link.ensures at c.set_first.ensures.writes)
