use Rattle.std.proofs.Common.{arith}
use Rattle.scan_programs.proofs.Lists.{numbers_more}
use Rattle.scan_programs.proofs.program_lines.numbered.Goals as goal

pub loop-number-preserved : goal.loop-number-preserved
loop-number-preserved c =
    rw (c.in_ok-push.ensures.ok) (numbers_more c.args.list c.loop-number.numbers c.loop-number.number _ (omega arith) (omega arith) c.loop-number.invariant)
