use Rattle.std.proofs.Common.{◌≡◌, ◌++◌, ◌+◌, length}
use Rattle.std.specs.List.{flat_map}
use Rattle.std.specs.Vec.Iter.{into_iter_items, into_iter_len}
use Rattle.box_model.specs.Opened.{opened_item, item_ports, origins_from}
use Rattle.box_trees.specs.Opening.{item_joined}
use Rattle.box_trees.proofs.opening.gather.Given as goal

abbrev pub invariant-loop-item : goal.invariant-loop-item
invariant-loop-item l = record {
  items : l.made.items ++ flat_map (opened_item l.table l.tree) (into_iter_items l.item-iterator) ≡ flat_map (opened_item l.table l.tree) l.fn.items;
  hidden : l.made.hidden ++ flat_map (item_ports l.table) (into_iter_items l.item-iterator) ≡ flat_map (item_ports l.table) l.fn.items;
  joined : l.made.joined ++ flat_map (item_joined l.table l.tree) (into_iter_items l.item-iterator) ≡ flat_map (item_joined l.table l.tree) l.fn.items;
  origins : l.origins.items ++ origins_from l.table l.tree l.number (into_iter_items l.item-iterator) ≡ origins_from l.table l.tree 0 l.fn.items;
  same : length l.origins.items ≡ length l.made.items;
  left : l.number + length (into_iter_items l.item-iterator) ≡ length l.fn.items;
  long : into_iter_len l.item-iterator ≡ length (into_iter_items l.item-iterator);
}
