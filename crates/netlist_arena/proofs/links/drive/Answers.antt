use Rattle.netlist_arena.proofs.DrivenNets.{driven_slots, driven_cells}
use Rattle.netlist_arena.proofs.links.drive.Goals as goal

pub returns-clause-slots : goal.returns-clause-slots
returns-clause-slots c = λ r. rw c.set_output.ensures (driven_slots c.args.cells.now.items c.args.id.0 c.value_mut-cell.result.now c.args.net r c.value_mut-cell.ensures.value)

pub returns-clause-cells : goal.returns-clause-cells
returns-clause-cells c = rw c.set_output.ensures (driven_cells c.args.cells.now.items c.args.id.0 c.value_mut-cell.result.now c.args.net c.value_mut-cell.ensures.value)
