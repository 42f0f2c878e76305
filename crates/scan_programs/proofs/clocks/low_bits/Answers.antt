use Rattle.std.proofs.Common.{arith}
use Rattle.scan_programs.proofs.Bits.{low_bits_more, low_bits_end}
use Rattle.scan_programs.proofs.clocks.low_bits.Goals as goal

pub loop-preserved : goal.loop-preserved
loop-preserved c =
    rw (c.in_ok-push.ensures.items) (low_bits_more c.loop.bits.items c.args.pattern.len c.loop.counter c.loop.rest _ (omega arith) c.loop.invariant)

pub returns : goal.returns
returns c = low_bits_end c.loop.bits.items c.args.pattern.len c.loop.counter c.loop.rest _ (omega arith) c.loop.invariant
