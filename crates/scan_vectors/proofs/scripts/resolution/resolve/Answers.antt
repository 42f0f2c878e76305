use Rattle.std.proofs.Common.{◌≡◌, ◌<◌, length, take, ap, arith}
use Rattle.scan_vectors.proofs.Verdicts.{gone_all, gone_broken, gone_next, gone_waiting, line_there, number_there}
use Rattle.scan_vectors.proofs.scripts.resolution.resolve.Goals as goal

pub returns-in-None-clause-fault : goal.returns-in-None-clause-fault
returns-in-None-clause-fault c =
    let lines = c.args.lines.now in
    let items = c.as_slice-line-items in
    let place = c.loop-place.place in
    let less : place < length items.result.now = omega (arith, c.loop-place-test.true) in
    let gone = c.loop-place.invariant in
    gone_broken c.args.linked.now lines place c.loop-place.script c.loop-place.starts c.line-item.result _
    (line_there lines items.result.now place c.line-item.result items.ensures less c.line-item.is)
    (number_there lines items.result.now c.as_slice-numbers.result.now place c.requires items.ensures c.as_slice-numbers.ensures less)
    (c.in-None.ensures (take place lines.list) gone.after) gone

pub loop-place-preserved : goal.loop-place-preserved
loop-place-preserved c =
    let lines = c.args.lines.now in
    let items = c.as_slice-line-items in
    let place = c.loop-place.place in
    let less : place < length items.result.now = omega (arith, c.loop-place-test.true) in
    let gone = c.loop-place.invariant in
    rw c.in_ok-push-in-Some.ensures.ok (gone_next c.args.linked.now lines place c.loop-place.script c.loop-place.starts c.take_line.new.starts c.line-item.result _ c.in-Some.found
    (line_there lines items.result.now place c.line-item.result items.ensures less c.line-item.is)
    (number_there lines items.result.now c.as_slice-numbers.result.now place c.requires items.ensures c.as_slice-numbers.ensures less)
    (c.in-Some.ensures (take place lines.list) gone.after) gone)

pub returns-then-not-is_complete-clause-fault : goal.returns-then-not-is_complete-clause-fault
returns-then-not-is_complete-clause-fault c =
    let items = c.as_slice-line-items in
    let all : c.loop-place.place ≡ length c.args.lines.now.list = omega (arith, ap length items.ensures, c.loop-place-test.false) in
    gone_waiting c.args.linked.now c.args.lines.now c.loop-place.place c.loop-place.script c.loop-place.starts all c.loop-place.invariant c.if-not-is_complete.ensures

pub returns-clause-ok : goal.returns-clause-ok
returns-clause-ok c =
    let items = c.as_slice-line-items in
    let all : c.loop-place.place ≡ length c.args.lines.now.list = omega (arith, ap length items.ensures, c.loop-place-test.false) in
    gone_all c.args.linked.now c.args.lines.now c.loop-place.place c.loop-place.script c.loop-place.starts all c.loop-place.invariant c.if-not-is_complete.ensures
