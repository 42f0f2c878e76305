use Rattle.std.proofs.Common.{◌≡◌, ◌++◌, take}
use Rattle.std.specs.List.{filter_map}
use Rattle.texts.specs.Repeated.{texts}
use Rattle.link_model.specs.Faults.{item_name}
use Rattle.link_names.proofs.names.add_items.Given as goal

abbrev pub invariant-loop-item : goal.invariant-loop-item
invariant-loop-item l = texts l.names.items ≡ texts l.initial.names.items ++ filter_map item_name (take l.item-index l.items)
