use Rattle.std.proofs.Common.{◌≡◌, map}
use Rattle.hier_counts.specs.Levels.{counts_at}
use Rattle.hier_counts.proofs.levels.counts_of.Given as goal

abbrev pub invariant-loop-level : goal.invariant-loop-level
invariant-loop-level l = l.counts.items ≡ map (counts_at l._level l.table) l.table
