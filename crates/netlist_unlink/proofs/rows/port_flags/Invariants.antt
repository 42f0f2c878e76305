use Rattle.std.proofs.Common.{take}
use Rattle.netlist_unlink.specs.Flags.{ArePortFlags}
use Rattle.netlist_unlink.proofs.rows.port_flags.Given as goal

abbrev pub invariant-loop-number : goal.invariant-loop-number
invariant-loop-number l = ArePortFlags l.linked.names (take l.number l.linked.arena.lists.ports) l.flags.items
