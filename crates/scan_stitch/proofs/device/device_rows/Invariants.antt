use Rattle.std.proofs.Common.{◌≡◌, map, take}
use Rattle.plan_fitting.specs.Devices.{cell_row}
use Rattle.scan_stitch.proofs.device.device_rows.Given as goal

abbrev pub invariant-loop-row : goal.invariant-loop-row
invariant-loop-row l = l.cells ≡ map (cell_row l.fitted) (take l.row-index l.rows)
