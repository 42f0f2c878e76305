use Rattle.std.proofs.Common.{take}
use Rattle.default_starts.specs.Found.{AreStarted}
use Rattle.default_starts.proofs.started.started_nets.Given as goal

abbrev pub invariant-loop-line : goal.invariant-loop-line
invariant-loop-line l = AreStarted l.linked (take l.line-index l.lines) l.flags.items
