use Rattle.std.proofs.Common.{◌≡◌, map, take}
use Rattle.netlist_unlink.specs.Trees.{port_of}
use Rattle.netlist_unlink.proofs.ports.tree_ports.Given as goal

abbrev pub invariant-loop-number : goal.invariant-loop-number
invariant-loop-number l = l.ports ≡ map (port_of l.linked.names) (take l.number l.linked.arena.lists.ports)
