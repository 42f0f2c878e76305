use Rattle.std.proofs.Common.{◌≡◌, drop}
use Rattle.netlist_unlink.specs.FreeNames.{nets_are_free}
use Rattle.netlist_unlink.proofs.prefix.nets_are_free.Given as goal

abbrev pub invariant-loop-number : goal.invariant-loop-number
invariant-loop-number l = nets_are_free l.linked.names l.prefix (drop l.number l.linked.arena.lists.nets) ≡ nets_are_free l.linked.names l.prefix l.linked.arena.lists.nets
