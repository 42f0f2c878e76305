use Rattle.std.proofs.Common.{◌≡◌, ◌++◌, drop}
use Rattle.std.specs.List.{filter_map}
use Rattle.hier_counts.specs.Graph.{child_place, child_places}
use Rattle.hier_counts.proofs.children.child_places.Given as goal

abbrev pub invariant-loop-item : goal.invariant-loop-item
invariant-loop-item l = l.places ++ filter_map (child_place l.table) (drop l.item-index l.module.items) ≡ child_places l.table l.module
