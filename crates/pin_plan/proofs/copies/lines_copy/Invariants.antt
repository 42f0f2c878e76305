use Rattle.std.proofs.Common.{◌≡◌, take}
use Rattle.pin_plan.proofs.copies.lines_copy.Given as goal

abbrev pub invariant-loop-line : goal.invariant-loop-line
invariant-loop-line l = l.copy ≡ take l.line-index l.lines
