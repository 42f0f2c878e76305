use Rattle.sim_runs.proofs.Starts.{AreTaken}
use Rattle.sim_runs.proofs.moments.pins_of.Given as goal

abbrev pub invariant-loop-line : goal.invariant-loop-line
invariant-loop-line l = AreTaken l.linked.arena.lists l.script l.line-index l.pins
