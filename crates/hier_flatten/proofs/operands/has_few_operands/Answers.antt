use Rattle.std.proofs.Common.{◌-◌, ◌<◌, ◌≤◌, Some, None, refl, subst, arith}
use Rattle.std.proofs.lemmas.Bool.{false≢true}
use Rattle.hier_model.specs.Walks.{turn_of, Goes}
use Rattle.hier_model.specs.Entries.{level_limit}
use Rattle.hier_flatten.specs.Operands.{turn_operands, operand_count, operand_limit}
use Rattle.hier_flatten.proofs.Walks.{walk_falls}
use Rattle.hier_flatten.proofs.OperandWalks.{counts_first, counts_on, counts_past, counts_all, taken, many}
use Rattle.hier_flatten.proofs.operands.has_few_operands.Goals as goal

pub loop-walk-init : goal.loop-walk-init
loop-walk-init c = counts_first level_limit c.args.modules.now c.args.top.now c.in_ok-walk.walk c.in_ok-walk.ensures c.requires

pub returns-then-count-left : goal.returns-then-count-left
returns-then-count-left c =
    let old = c.loop-walk.walk in
    let new = c.next.new.self in
    let step = c.in-Some.step in
    let goes : Goes level_limit old new (Some step) = subst (Goes level_limit old new) c.in-Some.is (c.in_ok-step.ensures.goes level_limit c.loop-walk.invariant.walks) in
    let past : operand_limit < operand_count c.args.modules.now c.args.top.now =
    counts_past level_limit (operand_count c.args.modules.now c.args.top.now) old new step c.loop-walk.left goes c.loop-walk.invariant (many c.loop-walk.left c.step_operands-count.result (turn_operands (turn_of step.turn)) c.step_operands-count.ensures c.if-count-left.true) in
    (λ e. absurd (false≢true e), λ few. absurd (omega (arith, past, few)))

pub loop-walk-preserved : goal.loop-walk-preserved
loop-walk-preserved c =
    let old = c.loop-walk.walk in
    let new = c.next.new.self in
    let step = c.in-Some.step in
    let goes : Goes level_limit old new (Some step) = subst (Goes level_limit old new) c.in-Some.is (c.in_ok-step.ensures.goes level_limit c.loop-walk.invariant.walks) in
    counts_on level_limit (operand_count c.args.modules.now c.args.top.now) old new step c.loop-walk.left (c.loop-walk.left - c.step_operands-count.result) goes c.loop-walk.invariant
    (taken c.loop-walk.left c.step_operands-count.result (turn_operands (turn_of step.turn)) c.step_operands-count.ensures c.if-count-left.false)

pub loop-walk-smaller : goal.loop-walk-smaller
loop-walk-smaller c =
    walk_falls level_limit c.loop-walk.walk c.next.new.self c.in-Some.step (subst (Goes level_limit c.loop-walk.walk c.next.new.self) c.in-Some.is (c.in_ok-step.ensures.goes level_limit c.loop-walk.invariant.walks))

pub returns : goal.returns
returns c =
    let old = c.loop-walk.walk in
    let new = c.next.new.self in
    let ends : Goes level_limit old new None = subst (Goes level_limit old new) c.in_default.is (c.in_ok-step.ensures.goes level_limit c.loop-walk.invariant.walks) in
    (λ e. counts_all level_limit (operand_count c.args.modules.now c.args.top.now) old new c.loop-walk.left ends c.loop-walk.invariant, λ few. refl)
