use Rattle.std.proofs.Common.{◌≡◌, ◌++◌, drop}
use Rattle.std.specs.List.{filter_map}
use Rattle.texts.specs.Repeated.{texts}
use Rattle.box_trees.specs.Cuts.{flop_name}
use Rattle.box_trees.proofs.cut_faults.flop_places.Given as goal

abbrev pub invariant-loop-item : goal.invariant-loop-item
invariant-loop-item l = texts l.names.items ++ filter_map (flop_name l.table) (drop l.item-index l.items) ≡ filter_map (flop_name l.table) l.items
