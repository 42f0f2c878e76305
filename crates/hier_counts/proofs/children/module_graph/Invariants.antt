use Rattle.std.proofs.Common.{◌≡◌, ◌++◌, drop, map}
use Rattle.hier_counts.specs.Graph.{child_places, module_graph}
use Rattle.hier_counts.proofs.children.module_graph.Given as goal

abbrev pub invariant-loop-module : goal.invariant-loop-module
invariant-loop-module l = l.rows ++ map (child_places l.table) (drop l.module-index l.table) ≡ module_graph l.table
