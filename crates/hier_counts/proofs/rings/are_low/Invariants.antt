use Rattle.std.proofs.Common.{ℕ, ◌≤◌, drop}
use Rattle.hier_counts.specs.Graph.{IsIn}
use Rattle.hier_counts.specs.Rings.{number}
use Rattle.hier_counts.proofs.rings.are_low.Given as goal

-- where those that are left are low, all are
abbrev pub invariant-loop-place : goal.invariant-loop-place
invariant-loop-place l = ((w : ℕ) → IsIn w (drop l.place-index l.places) → number l.numbers w ≤ l.bound) → (w : ℕ) → IsIn w l.places → number l.numbers w ≤ l.bound
