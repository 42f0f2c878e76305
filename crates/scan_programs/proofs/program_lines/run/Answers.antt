use Rattle.std.proofs.Common.{arith}
use Rattle.scan_programs.proofs.Chain.{clocks_more, clocks_end}
use Rattle.scan_programs.proofs.program_lines.run.Goals as goal

pub loop-cycle-preserved : goal.loop-cycle-preserved
loop-cycle-preserved c =
    clocks_more c.args.clocks.now c.loop-cycle.cycle-index _ _ _ _ c.loop-cycle-test.true c.in_ok-clock.ensures c.loop-cycle.invariant

pub returns : goal.returns
returns c = clocks_end c.args.clocks.now c.loop-cycle.cycle-index _ _ (omega arith) c.loop-cycle.invariant
