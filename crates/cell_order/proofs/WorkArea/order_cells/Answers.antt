use Rattle.cell_order.specs.Walk.{IsClosed}
use Rattle.cell_order.proofs.ClosedPaths.{loop_of}
use Rattle.cell_order.proofs.WorkArea.order_cells.Goals as goal
use Rattle.cell_order.proofs.WorkArea.order_cells.Goals.{in-None, in-Some+in_ok-numbers-in-Some}

pub returns-clause-fault : goal.returns-clause-fault
returns-clause-fault c = elim c.match-search.branch [
  | in-None w ↦ rw w.result-is tt
  | in-Some+in_ok-numbers-in-Some w ↦
      let closed : IsClosed c.args.netlist.now.lists w.as_slice.result.now w.in-Some.on.0 = rw w.as_slice.ensures.value w.in-Some.ensures.found in
      rw w.result-is (loop_of c.args.netlist.now.lists w.as_slice.result.now w.in-Some.on.0 w.in_ok-numbers-in-Some.numbers closed w.in_ok-numbers-in-Some.ensures)
]
