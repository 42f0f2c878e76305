use Rattle.std.proofs.Common.{◌≡◌, take}
use Rattle.std.specs.List.{flat_map}
use Rattle.box_trees.specs.HiddenNames.{names_at}
use Rattle.box_trees.proofs.hidden_names.names_of_items.Given as goal

abbrev pub invariant-loop-item : goal.invariant-loop-item
invariant-loop-item l = l.hidden ≡ flat_map (names_at l.table l.nets) (take l.item-index l.items)
