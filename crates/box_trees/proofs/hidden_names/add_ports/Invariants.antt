use Rattle.std.proofs.Common.{◌≡◌, ◌++◌, map, take}
use Rattle.box_trees.specs.HiddenNames.{name_at}
use Rattle.box_trees.proofs.hidden_names.add_ports.Given as goal

abbrev pub invariant-loop-port : goal.invariant-loop-port
invariant-loop-port l = l.hidden ≡ l.fn.hidden ++ map (name_at l.nets l.instance) (take l.port-index l.ports)
