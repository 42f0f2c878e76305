use Rattle.std.proofs.Common.{length}
use Rattle.linked_cells.specs.Cells.{cell_view}
use Rattle.netlist_arena.proofs.Laid.{feed_below}
use Rattle.netlist_arena.proofs.Looks.{operand_within, operand_is, slot_feed}
use Rattle.netlist_arena.proofs.Netlist.feed.Goals as goal

pub slot-slot-requires : goal.slot-slot-requires
slot-slot-requires c = operand_within c.args.self.now.lists c.args.cell.0 c.args.place c.cell.result.now c.cell.ensures.found c.requires

pub returns-clause-value : goal.returns-clause-value
returns-clause-value c = operand_is c.args.self.now.lists c.args.cell.0 c.args.place c.cell.result.now c.slot-slot.result c.cell.ensures.found c.slot-slot.ensures

pub returns-clause-below : goal.returns-clause-below
returns-clause-below c =
    feed_below (length c.args.self.now.lists.nets) (cell_view c.cell.result.now).feeds c.args.place c.slot-slot.result.feed c.cell.ensures.below.0
    (slot_feed c.cell.result.now c.args.place c.slot-slot.result c.slot-slot.ensures)
