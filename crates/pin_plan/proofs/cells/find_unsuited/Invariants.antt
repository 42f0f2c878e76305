use Rattle.std.proofs.Common.{◌≡◌, drop, length}
use Rattle.plan_fitting.specs.Fits.{cell_fault}
use Rattle.pin_plan.proofs.cells.find_unsuited.Given as goal

abbrev pub invariant-loop-line : goal.invariant-loop-line
invariant-loop-line l = cell_fault (drop (length l.yielded) l.lines) (drop (length l.yielded) l.pins) ≡ cell_fault l.lines l.pins
