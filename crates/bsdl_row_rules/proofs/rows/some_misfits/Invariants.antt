use Rattle.std.proofs.Common.{◌≡◌, drop}
use Rattle.std.specs.List.{list_any}
use Rattle.bsdl_device.specs.RowRules.{row_misfits}
use Rattle.bsdl_row_rules.proofs.rows.some_misfits.Given as goal

abbrev pub invariant-loop-row : goal.invariant-loop-row
invariant-loop-row l = list_any (row_misfits l.ports l.tap l.controls.rows.now) (drop l.row-index l.controls.rows.now) ≡ list_any (row_misfits l.ports l.tap l.controls.rows.now) l.controls.rows.now
