use Rattle.std.proofs.Common.{take}
use Rattle.pin_plan.specs.Seen.{ArePinsOf}
use Rattle.pin_plan.proofs.pins.pins_of.Given as goal

abbrev pub invariant-loop-line : goal.invariant-loop-line
invariant-loop-line l = ArePinsOf l.linked (take l.line-index l.lines) l.pins.items
