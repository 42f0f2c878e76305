use Rattle.std.proofs.Common.{arith, refl}
use Rattle.scan_programs.proofs.Bits.{shifts_more, shifts_end}
use Rattle.scan_programs.proofs.clocks.push_shifts.Goals as goal

pub loop-place-preserved : goal.loop-place-preserved
loop-place-preserved c =
    rw (c.in_ok-push.ensures.items) (shifts_more c.loop-place.clocks.items c.args.bits.now c.loop-place.place _ _ _ (omega arith) refl c.loop-place.invariant)

pub returns : goal.returns
returns c = shifts_end c.loop-place.clocks.items c.args.bits.now c.loop-place.place _ (omega arith) c.loop-place.invariant
