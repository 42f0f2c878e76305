use Rattle.std.proofs.Common.{◌≡◌, ◌++◌, drop}
use Rattle.std.specs.List.{flat_map, filter_map}
use Rattle.box_model.specs.Opened.{port_items, hidden_at}
use Rattle.box_trees.specs.Opening.{port_joined}
use Rattle.box_trees.proofs.item_opening.push_ports.Given as goal

abbrev pub invariant-loop-port : goal.invariant-loop-port
invariant-loop-port l = record {
  items : l.made.items ++ flat_map (port_items l.nets l.instance) (drop l.port-index l.ports) ≡ l.fn.made.items ++ flat_map (port_items l.nets l.instance) l.ports;
  hidden : l.made.hidden ++ filter_map (hidden_at l.instance) (drop l.port-index l.ports) ≡ l.fn.made.hidden ++ filter_map (hidden_at l.instance) l.ports;
  joined : l.made.joined ++ flat_map (port_joined l.nets l.instance) (drop l.port-index l.ports) ≡ l.fn.made.joined ++ flat_map (port_joined l.nets l.instance) l.ports;
}
