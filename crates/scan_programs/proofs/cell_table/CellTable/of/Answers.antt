use Rattle.scan_programs.proofs.Keys.{finds_cells}
use Rattle.scan_programs.proofs.cell_table.CellTable.of.Goals as goal

pub invariant_of-result : goal.invariant_of-result
invariant_of-result c = finds_cells c.args.cells.now c.in_ok-places.places.entries c.in_ok-places.ensures
