use Rattle.std.proofs.Common.{◌≡◌, take, map}
use Rattle.box_tables.specs.CutPorts.{cut_in_box}
use Rattle.box_tables.proofs.table.tables_of_boxes.Given as goal

abbrev pub invariant-loop-cell : goal.invariant-loop-cell
invariant-loop-cell l = l.tables ≡ map cut_in_box (take l.cell-index l.boxes)
