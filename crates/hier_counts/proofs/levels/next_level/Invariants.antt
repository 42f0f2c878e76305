use Rattle.std.proofs.Common.{◌≡◌, ◌++◌, map, drop}
use Rattle.hier_counts.specs.declared.sizes.Size.{Size}
use Rattle.hier_counts.specs.Levels.{next_counts}
use Rattle.hier_counts.proofs.levels.next_level.Given as goal

abbrev pub invariant-loop-size : goal.invariant-loop-size
invariant-loop-size l = l.counts.items ++ map (λ (s : Size). next_counts s l.below) (drop l.size-index l.sizes) ≡ map (λ (s : Size). next_counts s l.below) l.sizes
