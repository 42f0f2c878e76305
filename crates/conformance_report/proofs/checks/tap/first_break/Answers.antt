use Rattle.std.proofs.Common.{◌≤◌, ◌<◌, length, ap, arith}
use Rattle.scan_vectors.proofs.Verdicts.{line_there}
use Rattle.conformance_report.proofs.Taps.{tap_next, tap_kept, not_so}
use Rattle.conformance_report.proofs.checks.tap.first_break.Goals as goal

pub loop-place-preserved : goal.loop-place-preserved
loop-place-preserved c =
    let lines = c.args.lines.now in
    let items = c.as_slice-line-items in
    let place = c.loop-place.place in
    let less : place < length items.result.now = omega (arith, c.loop-place-test.true) in
    tap_next c.args.device.now lines.list place c.line-item.result (line_there lines items.result.now place c.line-item.result items.ensures less c.line-item.is)
    (not_so c.breaks_rule.result c.breaks_rule.ensures c.if-breaks_rule.false) c.loop-place.invariant

pub returns : goal.returns
returns c =
    let all : length c.args.lines.now.list ≤ c.loop-place.place = omega (arith, ap length c.as_slice-line-items.ensures, c.loop-place-test.false) in
    tap_kept c.args.device.now c.args.lines.now.list c.loop-place.place all c.loop-place.invariant
