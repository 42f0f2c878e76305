use Rattle.hier_model.specs.Entries.{level_limit}
use Rattle.hier_flatten.proofs.Walks.{step_listed, walk_falls}
use Rattle.hier_flatten.proofs.FlatLaws.{path_in_slice}
use Rattle.hier_flatten.proofs.EnterLaws.{visit_checks}
use Rattle.hier_flatten.proofs.StepChecks.{early_is, nets_are, items_first, items_few, items_on, items_stop, items_end, goes_as, ends_as}
use Rattle.hier_flatten.proofs.name_checks.find_bad_name.Goals as goal

pub returns-in-Some : goal.returns-in-Some
returns-in-Some c = early_is c.args.tables.now c.args.top.now c.new-seen.result c.check_nets.new.seen _ c.in-Some.fault c.new-seen.ensures c.in-Some.is c.in_ok-fault.ensures

pub loop-walk-init : goal.loop-walk-init
loop-walk-init c =
    items_first c.args.tables.now c.modules.result.now c.args.top.now c.check_nets.new.seen c.in_ok-walk.walk c.modules.ensures c.in_ok-walk.ensures c.requires.levels c.requires.listed
    (nets_are c.args.tables.now c.args.top.now c.new-seen.result c.check_nets.new.seen _ c.new-seen.ensures c.in-None.is c.in_ok-fault.ensures)

pub check_step-requires-clause-few : goal.check_step-requires-clause-few
check_step-requires-clause-few c =
    (items_few c.args.tables.now c.args.top.now c.loop-walk.walk c.check_nets.new.seen c.loop-walk.seen c.len-declared.result
    (nets_are c.args.tables.now c.args.top.now c.new-seen.result c.check_nets.new.seen _ c.new-seen.ensures c.in-None.is c.in_ok-fault.ensures) c.len-declared.ensures.len c.loop-walk.invariant).1

pub check_step-requires-clause-within : goal.check_step-requires-clause-within
check_step-requires-clause-within c =
    (step_listed level_limit c.args.tables.now visit_checks _ c.loop-walk.walk c.next.new.self c.in-Some-2.step c.loop-walk.invariant.made (goes_as c.loop-walk.walk c.next.new.self _ c.in-Some-2.step c.in-Some-2.is (c.in_ok-step.ensures.goes level_limit c.loop-walk.invariant.makes.walks)) c.loop-walk.invariant.makes).0

pub check_step-requires-clause-path : goal.check_step-requires-clause-path
check_step-requires-clause-path c =
    path_in_slice level_limit c.loop-walk.walk c.next.new.self c.in-Some-2.step c.as_slice.result.now (goes_as c.loop-walk.walk c.next.new.self _ c.in-Some-2.step c.in-Some-2.is (c.in_ok-step.ensures.goes level_limit c.loop-walk.invariant.makes.walks)) c.as_slice.ensures.value

pub returns-in-Some-3 : goal.returns-in-Some-3
returns-in-Some-3 c =
    items_stop c.args.tables.now c.args.top.now c.loop-walk.seen c.check_step.new.seen c.check_nets.new.seen c.new-seen.result c.loop-walk.walk c.next.new.self c.in-Some-2.step c.as_slice.result.now c.len-declared.result _ _ c.in-Some-3.fault
    (goes_as c.loop-walk.walk c.next.new.self _ c.in-Some-2.step c.in-Some-2.is (c.in_ok-step.ensures.goes level_limit c.loop-walk.invariant.makes.walks)) c.as_slice.ensures.value c.new-seen.ensures c.in-None.is c.in_ok-fault.ensures c.len-declared.ensures.len c.loop-walk.invariant c.in-Some-3.is c.in_ok-fault-2.ensures

pub loop-walk-smaller : goal.loop-walk-smaller
loop-walk-smaller c = walk_falls level_limit c.loop-walk.walk c.next.new.self c.in-Some-2.step (goes_as c.loop-walk.walk c.next.new.self _ c.in-Some-2.step c.in-Some-2.is (c.in_ok-step.ensures.goes level_limit c.loop-walk.invariant.makes.walks))

pub loop-walk-preserved : goal.loop-walk-preserved
loop-walk-preserved c =
    items_on c.args.tables.now c.args.top.now c.loop-walk.seen c.check_step.new.seen c.check_nets.new.seen c.loop-walk.walk c.next.new.self c.in-Some-2.step c.as_slice.result.now c.len-declared.result _
    (goes_as c.loop-walk.walk c.next.new.self _ c.in-Some-2.step c.in-Some-2.is (c.in_ok-step.ensures.goes level_limit c.loop-walk.invariant.makes.walks)) c.as_slice.ensures.value (nets_are c.args.tables.now c.args.top.now c.new-seen.result c.check_nets.new.seen _ c.new-seen.ensures c.in-None.is c.in_ok-fault.ensures) c.len-declared.ensures.len c.loop-walk.invariant c.in-None-2.is c.in_ok-fault-2.ensures

pub returns : goal.returns
returns c =
    items_end c.args.tables.now c.args.top.now c.loop-walk.seen c.check_nets.new.seen c.new-seen.result c.loop-walk.walk c.next.new.self _
    (ends_as c.loop-walk.walk c.next.new.self _ c.in_default.is (c.in_ok-step.ensures.goes level_limit c.loop-walk.invariant.makes.walks)) c.new-seen.ensures c.in-None.is c.in_ok-fault.ensures c.loop-walk.invariant
