use Rattle.std.proofs.Common.{◌≡◌, ◌++◌, drop}
use Rattle.netlist_unlink.specs.Trees.{added_from}
use Rattle.netlist_unlink.proofs.wires.add_wires.Given as goal

abbrev pub invariant-loop-number : goal.invariant-loop-number
invariant-loop-number l = l.wires ++ added_from l.prefix l.number (drop l.number l.linked.arena.lists.nets) ≡ l.fn.wires ++ added_from l.prefix 0 l.linked.arena.lists.nets
