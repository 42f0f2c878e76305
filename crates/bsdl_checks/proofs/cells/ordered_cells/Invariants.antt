use Rattle.std.proofs.Common.{◌≡◌, map}
use Rattle.bsdl_device.specs.Denoted as denoted
use Rattle.bsdl_checks.proofs.cells.ordered_cells.Given as goal

abbrev pub invariant-loop-number : goal.invariant-loop-number
invariant-loop-number l = l.made ≡ map (denoted.cell_of l.ports) (denoted.ordered_rows l.number l.rows)
