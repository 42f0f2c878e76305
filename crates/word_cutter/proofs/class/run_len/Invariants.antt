use Rattle.std.proofs.Common.{length, ◌-◌, ◌≡◌, ◌+◌, ◌≤◌, drop}
use Rattle.std.specs.List.{prefix_len}
use Rattle.word_cutter.proofs.class.run_len.Given as goal

abbrev pub invariant-loop-count : goal.invariant-loop-count
invariant-loop-count g l = (l.count ≤ length l.piece) × (l.count + prefix_len g.C.ByteClass.holds (drop l.count l.piece) ≡ prefix_len g.C.ByteClass.holds l.piece)

abbrev pub decreases-loop-count : goal.decreases-loop-count
decreases-loop-count g l = length l.piece - l.count
