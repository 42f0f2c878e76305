use Rattle.std.proofs.Common.{◌≡◌, ◌≤◌, length}
use Rattle.netlist_recovery.proofs.Walk.{AreLeft}
use Rattle.netlist_recovery.proofs.sides.sides_before.Given as goal

abbrev pub invariant-loop-number : goal.invariant-loop-number
invariant-loop-number l = (l.left ≤ length l.items) × AreLeft l.fn.rows l.fn.items l.found l.left l.number
