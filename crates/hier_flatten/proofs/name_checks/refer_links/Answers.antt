use Rattle.std.proofs.Common.{List, None, take, sym, ap, ◌∙◌, arith}
use Rattle.std.specs.List.{flat_map}
use Rattle.std.proofs.lemmas.List.{take_all}
use Rattle.verilog_tree.specs.declared.tree.Link.{Link}
use Rattle.link_model.specs.Faults.{link_bits}
use Rattle.hier_model.specs.Walks.{texts}
use Rattle.hier_model.specs.Faults.{bad_name_after}
use Rattle.hier_flatten.specs.NameChecks.{net_checks}
use Rattle.hier_flatten.proofs.EnterLaws.{nets_more, nets_stop}
use Rattle.hier_flatten.proofs.name_checks.refer_links.Goals as goal

pub returns-in-Some : goal.returns-in-Some
returns-in-Some c =
    let around = c.args.around.now in
    nets_stop link_bits (take around.declared c.args.seen.now) c.args.seen.now (texts around.at.now) around.nets.now c.args.links.now c.loop-link.link-index c.link-item.result c.in-Some.fault (omega arith) c.link-item.is c.loop-link.invariant
    (sym c.in-Some.is ∙ c.in_ok-fault.ensures)

pub loop-link-preserved : goal.loop-link-preserved
loop-link-preserved c =
    let around = c.args.around.now in
    nets_more link_bits (take around.declared c.args.seen.now) c.args.seen.now (texts around.at.now) around.nets.now c.args.links.now c.loop-link.link-index c.link-item.result None (omega arith) c.link-item.is c.loop-link.invariant
    (sym c.in-None.is ∙ c.in_ok-fault.ensures)

pub returns : goal.returns
returns c =
    let around = c.args.around.now in
    c.loop-link.invariant
    ∙ ap (λ (xs : List Link). bad_name_after (take around.declared c.args.seen.now) c.args.seen.now (net_checks (texts around.at.now) around.nets.now (flat_map link_bits xs))) (take_all c.loop-link.link-index c.args.links.now (omega arith))
