use Rattle.std.proofs.Common.{◌≡◌, take}
use Rattle.sim_runs.specs.Bits.{told_of, untold}
use Rattle.sim_runs.proofs.shown.untold_bits.Given as goal

abbrev pub invariant-loop-bit : goal.invariant-loop-bit
invariant-loop-bit l = l.told.items ≡ told_of untold (take l.bit-index l.bits)
