use Rattle.std.proofs.Common.{◌≤◌, ◌<◌, length, ap, arith}
use Rattle.scan_vectors.proofs.Verdicts.{line_there, number_there, spelled_lengths}
use Rattle.conformance_report.proofs.Merged.{merged_next, merged_all}
use Rattle.conformance_report.proofs.checks.check_text.put_misses.Goals as goal

pub loop-place-preserved : goal.loop-place-preserved
loop-place-preserved c =
    let lines = c.args.lines.now in
    let items = c.as_slice-line-items in
    let place = c.loop-place.place in
    let less : place < length items.result.now = omega (arith, c.loop-place-test.true) in
    merged_next lines c.args.text.now c.args.misses.now place c.loop-place.text c.loop-place.rest.now c.line-item.result _ _ _ c.requires.spelled
    (line_there lines items.result.now place c.line-item.result items.ensures less c.line-item.is)
    (number_there lines items.result.now c.as_slice-numbers.result.now place (spelled_lengths lines c.requires.spelled) items.ensures c.as_slice-numbers.ensures less)
    c.in_ok-rest.ensures.text c.in_ok-rest.ensures.behind c.loop-place.invariant

pub returns : goal.returns
returns c =
    let all : length c.args.lines.now.list ≤ c.loop-place.place = omega (arith, ap length c.as_slice-line-items.ensures, c.loop-place-test.false) in
    merged_all c.args.lines.now c.args.text.now c.args.misses.now c.loop-place.place c.loop-place.text c.loop-place.rest.now c.requires.spelled all c.loop-place.invariant
