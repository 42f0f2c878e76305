use Rattle.std.proofs.Common.{◌≡◌, ◌++◌, map, drop, length}
use Rattle.plan_fitting.specs.Fits.{taken_by}
use Rattle.pin_plan.specs.Taken.{taken_view}
use Rattle.pin_plan.proofs.twice.take_pins.Given as goal

abbrev pub invariant-loop-line : goal.invariant-loop-line
invariant-loop-line l =
    map taken_view l.taken.items ++ taken_by (drop (length l.yielded) l.lines) (drop (length l.yielded) l.pins)
    ≡ map taken_view l.initial.taken.items ++ taken_by l.lines l.pins
