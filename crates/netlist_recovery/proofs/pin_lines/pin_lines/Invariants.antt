use Rattle.netlist_recovery.proofs.Found.{AreRowsLeft}
use Rattle.netlist_recovery.proofs.pin_lines.pin_lines.Given as goal

abbrev pub invariant-loop-row : goal.invariant-loop-row
invariant-loop-row l = AreRowsLeft l.device l.rows l.lines l.row-index
