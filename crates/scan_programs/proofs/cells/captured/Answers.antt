use Rattle.std.proofs.Common.{ap, length, arith}
use Rattle.scan_programs.specs.Cells.{captured_at, unknown_core}
use Rattle.scan_programs.proofs.Lists.{images_step, images_length}
use Rattle.scan_programs.proofs.cells.captured.Goals as goal

pub loop-number-preserved : goal.loop-number-preserved
loop-number-preserved c =
    images_step (captured_at c.args.device.now c.args.machine.now.holds unknown_core) c.args.device.now.cells c.as_slice-cells.result.now c.loop-number.number _ c.loop-number.bits.items _
    c.as_slice-cells.ensures c.loop-number-test.true c.loop-number.invariant c.in_ok-push_captured.ensures

pub returns-clause-len : goal.returns-clause-len
returns-clause-len c =
    images_length (captured_at c.args.device.now c.args.machine.now.holds unknown_core) c.args.device.now.cells c.loop-number.bits.items c.loop-number.number
    (let l = ap length c.as_slice-cells.ensures in omega (arith, l)) c.loop-number.invariant
