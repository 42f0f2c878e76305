use Rattle.std.proofs.Common.{ℕ, ◌<◌, ◌≤◌}
use Rattle.hier_counts.specs.Graph.{row, IsIn}
use Rattle.hier_counts.specs.Rings.{number}
use Rattle.hier_counts.proofs.rings.never_rises.Given as goal

abbrev pub invariant-loop-place : goal.invariant-loop-place
invariant-loop-place l = (v w : ℕ) → v < l.place → IsIn w (row l.graph v) → number l.numbers w ≤ number l.numbers v
