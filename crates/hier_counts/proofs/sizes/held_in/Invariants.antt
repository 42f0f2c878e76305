use Rattle.std.proofs.Common.{◌≡◌, ◌++◌, drop}
use Rattle.std.specs.List.{filter_map}
use Rattle.hier_counts.specs.Levels.{held_by}
use Rattle.hier_counts.proofs.sizes.held_in.Given as goal

abbrev pub invariant-loop-item : goal.invariant-loop-item
invariant-loop-item l = l.held ++ filter_map (held_by l.table) (drop l.item-index l.items) ≡ filter_map (held_by l.table) l.items
