use Rattle.std.proofs.Common.{◌≡◌, ◌++◌, take}
use Rattle.std.specs.List.{flat_map}
use Rattle.texts.specs.Repeated.{texts}
use Rattle.box_model.specs.Faults.{named_by}
use Rattle.box_trees.proofs.named.add_items.Given as goal

abbrev pub invariant-loop-item : goal.invariant-loop-item
invariant-loop-item l = texts l.names.items ≡ texts l.initial.names.items ++ flat_map named_by (take l.item-index l.items)
