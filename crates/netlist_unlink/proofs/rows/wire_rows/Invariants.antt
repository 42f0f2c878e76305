use Rattle.std.proofs.Common.{◌≡◌, ◌++◌, drop}
use Rattle.netlist_unlink.specs.Rows.{rows, with_row}
use Rattle.netlist_unlink.proofs.rows.wire_rows.Given as goal

abbrev pub invariant-loop-number : goal.invariant-loop-number
invariant-loop-number l = l.rows.items ++ with_row l.last (rows l.linked.arena.lists.ports (drop l.number l.linked.arena.lists.nets)) ≡ rows l.linked.arena.lists.ports l.linked.arena.lists.nets
