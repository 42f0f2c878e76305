use Rattle.scan_vectors.specs.Starts.{AreMarked, IsPortBefore}
use Rattle.scan_vectors.proofs.scripts.tables.taken_nets.Given as goal

abbrev pub invariant-loop-number : goal.invariant-loop-number
invariant-loop-number l = AreMarked l.linked.arena.lists (IsPortBefore l.number) l.flags.items
