use Rattle.std.proofs.Common.{◌≡◌, take}
use Rattle.cell_library.proofs.copies.copy_of_cells.Given as goal

abbrev pub invariant-loop-cell : goal.invariant-loop-cell
invariant-loop-cell l = l.copy ≡ take l.cell-index l.cells
