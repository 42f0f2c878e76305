use Rattle.std.proofs.Common.{◌≡◌, drop}
use Rattle.netlist_unlink.specs.FreeNames.{cells_are_free}
use Rattle.netlist_unlink.proofs.prefix.cells_are_free.Given as goal

abbrev pub invariant-loop-cell : goal.invariant-loop-cell
invariant-loop-cell l = cells_are_free l.linked l.prefix (drop l.cell-index l.linked.order) ≡ cells_are_free l.linked l.prefix l.linked.order
