use Rattle.std.proofs.Common.{◌≡◌, ◌++◌, map, take}
use Rattle.plan_fitting.specs.Fits.{taken_alone}
use Rattle.pin_plan.specs.Taken.{taken_view}
use Rattle.pin_plan.proofs.twice.take_lines.Given as goal

abbrev pub invariant-loop-line : goal.invariant-loop-line
invariant-loop-line l = map taken_view l.taken.items ≡ map taken_view l.initial.taken.items ++ map taken_alone (take l.line-index l.lines)
