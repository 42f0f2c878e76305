use Rattle.std.proofs.Common.{◌≡◌, take}
use Rattle.texts.specs.Repeated.{texts}
use Rattle.box_tables.specs.CutPorts.{box_names}
use Rattle.box_tables.proofs.table.box_places.Given as goal

abbrev pub invariant-loop-cell : goal.invariant-loop-cell
invariant-loop-cell l = texts l.names.items ≡ box_names (take l.cell-index l.boxes)
