use Rattle.std.proofs.Common.{arith}
use Rattle.scan_programs.proofs.Bits.{alternating_more, alternating_end}
use Rattle.scan_programs.proofs.clocks.alternating.Goals as goal

pub loop-preserved : goal.loop-preserved
loop-preserved c =
    rw (c.in_ok-push.ensures.items) (alternating_more c.loop.bits.items c.args.count c.loop.counter c.loop.next _ (omega arith) c.loop.invariant)

pub returns : goal.returns
returns c = alternating_end c.loop.bits.items c.args.count c.loop.counter c.loop.next _ (omega arith) c.loop.invariant
