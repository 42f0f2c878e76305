use Rattle.std.proofs.Common.{[], refl}
use Rattle.hier_model.specs.Entries.{level_limit}
use Rattle.hier_flatten.proofs.Walks.{walk_falls}
use Rattle.hier_flatten.proofs.FlatLaws.{path_in_slice}
use Rattle.hier_flatten.proofs.StepChecks.{nets_first, nets_stop_first, goes_as, ends_as, nets_on, nets_stop_on, nets_end}
use Rattle.hier_flatten.proofs.name_checks.check_nets.Goals as goal

pub returns-in-Some : goal.returns-in-Some
returns-in-Some c =
    λ declared. nets_stop_first c.args.tables.now c.args.top.now declared c.args.seen.now c.enter_nets.new.seen [] _ c.in-Some.fault refl c.in-Some.is (c.in_ok-fault.ensures declared)

pub loop-walk-init : goal.loop-walk-init
loop-walk-init c =
    λ declared. nets_first c.args.tables.now c.modules.result.now c.args.top.now declared c.args.seen.now c.enter_nets.new.seen [] _ c.in_ok-walk.walk c.modules.ensures c.in_ok-walk.ensures c.requires.levels c.requires.listed refl c.in-None.is (c.in_ok-fault.ensures declared)

pub enter_opened-requires : goal.enter_opened-requires
enter_opened-requires c =
    path_in_slice level_limit c.loop-walk.walk c.next.new.self c.in-Some-2.step c.as_slice.result.now (goes_as c.loop-walk.walk c.next.new.self _ c.in-Some-2.step c.in-Some-2.is (c.in_ok-step.ensures.goes level_limit (c.loop-walk.invariant []).makes.walks)) c.as_slice.ensures.value

pub returns-in-Some-3 : goal.returns-in-Some-3
returns-in-Some-3 c =
    λ declared. nets_stop_on c.args.tables.now c.args.top.now declared c.args.seen.now c.loop-walk.seen c.enter_opened.new.seen c.loop-walk.walk c.next.new.self c.in-Some-2.step c.as_slice.result.now _ c.in-Some-3.fault (goes_as c.loop-walk.walk c.next.new.self _ c.in-Some-2.step c.in-Some-2.is (c.in_ok-step.ensures.goes level_limit (c.loop-walk.invariant []).makes.walks)) c.as_slice.ensures.value
    (c.loop-walk.invariant declared) c.in-Some-3.is (c.in_ok-fault-2.ensures declared)

pub loop-walk-smaller : goal.loop-walk-smaller
loop-walk-smaller c = walk_falls level_limit c.loop-walk.walk c.next.new.self c.in-Some-2.step (goes_as c.loop-walk.walk c.next.new.self _ c.in-Some-2.step c.in-Some-2.is (c.in_ok-step.ensures.goes level_limit (c.loop-walk.invariant []).makes.walks))

pub loop-walk-preserved : goal.loop-walk-preserved
loop-walk-preserved c =
    λ declared. nets_on c.args.tables.now c.args.top.now declared c.args.seen.now c.loop-walk.seen c.enter_opened.new.seen c.loop-walk.walk c.next.new.self c.in-Some-2.step c.as_slice.result.now _ (goes_as c.loop-walk.walk c.next.new.self _ c.in-Some-2.step c.in-Some-2.is (c.in_ok-step.ensures.goes level_limit (c.loop-walk.invariant []).makes.walks)) c.as_slice.ensures.value
    (c.loop-walk.invariant declared) c.in-None-2.is (c.in_ok-fault-2.ensures declared)

pub returns : goal.returns
returns c =
    λ declared. nets_end c.args.tables.now c.args.top.now declared c.args.seen.now c.loop-walk.seen c.loop-walk.walk c.next.new.self
    (ends_as c.loop-walk.walk c.next.new.self _ c.in_default.is (c.in_ok-step.ensures.goes level_limit (c.loop-walk.invariant []).makes.walks)) (c.loop-walk.invariant declared)
