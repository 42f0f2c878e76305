use Rattle.std.proofs.Common.{◌≡◌, find, drop}
use Rattle.strip_model.specs.Plans.{is_control_row}
use Rattle.netlist_recovery.proofs.plan.control_of.Given as goal

abbrev pub invariant-loop-row : goal.invariant-loop-row
invariant-loop-row l = find is_control_row l.rows ≡ find is_control_row (drop l.row-index l.rows)
