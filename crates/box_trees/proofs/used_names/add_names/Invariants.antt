use Rattle.std.proofs.Common.{◌≡◌, ◌++◌, drop}
use Rattle.std.specs.List.{filter_map}
use Rattle.texts.specs.Repeated.{texts}
use Rattle.link_model.specs.Faults.{item_name}
use Rattle.box_trees.proofs.used_names.add_names.Given as goal

abbrev pub invariant-loop-item : goal.invariant-loop-item
invariant-loop-item l = texts l.names.items ++ filter_map item_name (drop l.item-index l.items) ≡ texts l.fn.names.items ++ filter_map item_name l.items
