use Rattle.std.proofs.Common.{◌≡◌, [], drop, length}
use Rattle.plan_fitting.specs.Rows.{rows_after}
use Rattle.pin_plan.proofs.rows.boundary_rows.Given as goal

abbrev pub invariant-loop-line : goal.invariant-loop-line
invariant-loop-line l =
    rows_after l.plan.control l.highz l.rows (drop (length l.yielded) l.plan.pins) (drop (length l.yielded) l.pins) ≡ rows_after l.plan.control l.highz [] l.plan.pins l.pins
