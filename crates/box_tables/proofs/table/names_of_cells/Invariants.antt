use Rattle.std.proofs.Common.{◌≡◌, take}
use Rattle.texts.specs.Repeated.{texts}
use Rattle.box_tables.specs.CutPorts.{cell_names}
use Rattle.box_tables.proofs.table.names_of_cells.Given as goal

abbrev pub invariant-loop-number : goal.invariant-loop-number
invariant-loop-number l = texts l.names.items ≡ cell_names (take l.number l.cells)
