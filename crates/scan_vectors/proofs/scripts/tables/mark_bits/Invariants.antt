use Rattle.scan_vectors.specs.Starts.{AreMarked, IsBitBefore}
use Rattle.scan_vectors.proofs.scripts.tables.mark_bits.Given as goal

abbrev pub invariant-loop-bit : goal.invariant-loop-bit
invariant-loop-bit l = AreMarked l.linked.arena.lists (IsBitBefore l.port.0 l.bit) l.flags
