use Rattle.std.proofs.Common.{◌≡◌, map, take}
use Rattle.netlist_unlink.specs.Trees.{wire_of}
use Rattle.netlist_unlink.proofs.wires.original_wires.Given as goal

abbrev pub invariant-loop-row : goal.invariant-loop-row
invariant-loop-row l = l.wires ≡ map (wire_of l.linked.names) (take l.row-index l.rows)
