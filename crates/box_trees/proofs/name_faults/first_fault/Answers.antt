use Rattle.std.proofs.Common.{◌≡◌, ◌+◌, drop, ◌∙◌}
use Rattle.texts.specs.Repeated.{seen}
use Rattle.box_tables.proofs.Steps.{left_next}
use Rattle.box_trees.proofs.Taken.{taken_next, taken_here}
use Rattle.box_trees.proofs.name_faults.first_fault.Goals as goal

pub loop-one-preserved : goal.loop-one-preserved
loop-one-preserved c =
    let hidden = c.args.hidden.now in
    let i = c.loop-one.one-index in
    let one = c.one-item.result in
    taken_next c.args.used.now c.args.clashing.now (seen c.loop-one.before) (seen c.note.new.table) one (drop i hidden) (drop (i + 1) hidden) c.as_bytes-name.result.now c.in_ok-is_new.is_new c.is_bad.result
    (left_next hidden i one c.loop-one-test.true c.one-item.is) c.as_bytes-name.ensures c.in_ok-is_new.ensures.0 c.in_ok-is_new.ensures.1 c.is_bad.ensures c.if-is_bad.false
    ∙ c.loop-one.invariant

pub returns-then-is_bad : goal.returns-then-is_bad
returns-then-is_bad c =
    let hidden = c.args.hidden.now in
    let i = c.loop-one.one-index in
    let one = c.one-item.result in
    taken_here c.args.used.now c.args.clashing.now (seen c.loop-one.before) one (drop i hidden) (drop (i + 1) hidden) c.as_bytes-name.result.now c.in_ok-is_new.is_new c.is_bad.result c.in_ok-fault.fault
    (left_next hidden i one c.loop-one-test.true c.one-item.is) c.as_bytes-name.ensures c.in_ok-is_new.ensures.0 c.is_bad.ensures c.if-is_bad.true c.in_ok-fault.ensures
    ∙ c.loop-one.invariant
