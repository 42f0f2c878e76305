use Rattle.std.proofs.Common.{◌≡◌, ◌++◌, map, drop}
use Rattle.hier_counts.specs.Levels.{size_of}
use Rattle.hier_counts.proofs.sizes.sizes_of.Given as goal

abbrev pub invariant-loop-module : goal.invariant-loop-module
invariant-loop-module l = l.sizes.items ++ map (size_of l.table) (drop l.module-index l.table) ≡ map (size_of l.table) l.table
