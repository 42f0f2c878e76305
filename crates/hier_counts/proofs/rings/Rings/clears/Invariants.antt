use Rattle.std.proofs.Common.{◌≢◌, ℕ, drop}
use Rattle.hier_counts.specs.Graph.{IsIn}
use Rattle.hier_counts.specs.Rings.{number}
use Rattle.hier_counts.proofs.rings.Rings.clears.Given as goal

abbrev pub invariant-loop-step : goal.invariant-loop-step
invariant-loop-step l = ((w : ℕ) → IsIn w (drop l.step-index l.steps) → number l.self.numbers.items w ≢ l.own) → (w : ℕ) → IsIn w l.steps → number l.self.numbers.items w ≢ l.own
