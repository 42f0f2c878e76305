use Rattle.netlist_unlink.proofs.Free.{order_live}
use Rattle.netlist_unlink.proofs.prefix.cells_are_free.Goals as goal

pub is_free_cell-requires : goal.is_free_cell-requires
is_free_cell-requires c =
    order_live c.args.linked.now.arena.lists c.args.linked.now.order c.order-cell-items.result.now c.loop-cell.cell-index (record { 0 = 0 }) c.is_linked.ensures.linked.ordered c.order-cell-items.ensures c.loop-cell-test.true
