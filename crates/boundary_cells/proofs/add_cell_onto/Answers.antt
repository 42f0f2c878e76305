use Rattle.std.proofs.Common.{ℕ, [], ◌∷◌, length, arith}
use Rattle.netlist_model.specs.Lists.{CellView, cell_count}
use Rattle.gate_parts.specs.Appended.{Appended}
use Rattle.gate_parts.proofs.Steps.{length-cells_from}
use Rattle.boundary_cells.specs.Cells.{choice_cell}
use Rattle.boundary_cells.proofs.AddedTables.{joined}
use Rattle.boundary_cells.proofs.add_cell_onto.Goals as goal

pub add_driver-requires-clause-cells : goal.add_driver-requires-clause-cells
add_driver-requires-clause-cells c =
    let long = length-cells_from (length c.args.netlist.now.lists.nets) c.args.given.now (cell_count c.args.netlist.now.lists) (length c.args.netlist.now.lists.nets) c.args.gates.now in
    let room = c.add_part-first.ensures.added.cell_room in
    let cells = c.requires.cells in
    omega arith

pub returns-clause-added : goal.returns-clause-added
returns-clause-added c =
    let first : ℕ = length c.args.netlist.now.lists.nets in
    let cell : ℕ → CellView = λ number. choice_cell first c.args.given.now number c.args.into c.args.choice in
    let step : Appended c.add_part-first.new.netlist c.add_driver.new.netlist 0 (cell (cell_count c.add_part-first.new.netlist.lists) ∷ [])
    = rw (← c.add_part-first.ensures.first, ← c.operand-usual.ensures.value, ← c.operand-other.ensures.value, ← c.operand-select.ensures.value) c.add_driver.ensures.added in
    joined c.appended_more.ensures c.args.netlist.now c.add_part-first.new.netlist c.add_driver.new.netlist (length c.args.gates.now) (length c.args.gates.now) _ cell
    (length-cells_from first c.args.given.now (cell_count c.args.netlist.now.lists) first c.args.gates.now) c.add_part-first.ensures.added step
