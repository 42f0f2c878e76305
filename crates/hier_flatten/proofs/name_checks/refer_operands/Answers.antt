use Rattle.std.proofs.Common.{List, None, take, sym, ap, ◌∙◌, arith}
use Rattle.std.specs.List.{flat_map}
use Rattle.std.proofs.lemmas.List.{take_all}
use Rattle.verilog_tree.specs.declared.tree.Operand.{Operand}
use Rattle.link_model.specs.Faults.{operand_bits}
use Rattle.hier_model.specs.Walks.{texts}
use Rattle.hier_model.specs.Faults.{bad_name_after}
use Rattle.hier_flatten.specs.NameChecks.{net_checks}
use Rattle.hier_flatten.proofs.EnterLaws.{nets_more, nets_stop}
use Rattle.hier_flatten.proofs.name_checks.refer_operands.Goals as goal

pub returns-in-Some : goal.returns-in-Some
returns-in-Some c =
    let around = c.args.around.now in
    nets_stop operand_bits (take around.declared c.args.seen.now) c.args.seen.now (texts around.at.now) around.nets.now c.args.operands.now c.loop-operand.operand-index c.operand-item.result c.in-Some.fault (omega arith) c.operand-item.is c.loop-operand.invariant
    (sym c.in-Some.is ∙ c.in_ok-fault.ensures)

pub loop-operand-preserved : goal.loop-operand-preserved
loop-operand-preserved c =
    let around = c.args.around.now in
    nets_more operand_bits (take around.declared c.args.seen.now) c.args.seen.now (texts around.at.now) around.nets.now c.args.operands.now c.loop-operand.operand-index c.operand-item.result None (omega arith) c.operand-item.is c.loop-operand.invariant
    (sym c.in-None.is ∙ c.in_ok-fault.ensures)

pub returns : goal.returns
returns c =
    let around = c.args.around.now in
    c.loop-operand.invariant
    ∙ ap (λ (xs : List Operand). bad_name_after (take around.declared c.args.seen.now) c.args.seen.now (net_checks (texts around.at.now) around.nets.now (flat_map operand_bits xs))) (take_all c.loop-operand.operand-index c.args.operands.now (omega arith))
