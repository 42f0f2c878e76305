use Rattle.std.proofs.Common.{List, Some, None, subst, arith}
use Rattle.verilog_tree.specs.declared.tree.Port.{Port}
use Rattle.hier_model.specs.Walks.{texts}
use Rattle.hier_model.specs.Names.{flat_name}
use Rattle.hier_model.specs.Faults.{enters}
use Rattle.std.proofs.lemmas.List.{take_all}
use Rattle.hier_flatten.specs.NameChecks.{Checks, port_checks}
use Rattle.hier_flatten.proofs.EnterLaws.{part_more, part_stops, found_as}
use Rattle.hier_flatten.proofs.name_checks.enter_ports.Goals as goal

pub returns-in-Some : goal.returns-in-Some
returns-in-Some c =
    λ declared. part_stops (λ (x : Port). enters (flat_name (texts c.args.at.now) x.name)) declared c.args.seen.now c.loop-port.seen _ c.args.ports.now c.loop-port.port-index c.port-item.result c.in-Some.fault (omega arith) c.port-item.is (c.loop-port.invariant declared)
    (found_as declared c.loop-port.seen _ c.port-item.result.name c.as_bytes.result.now (texts c.args.at.now) _ (Some c.in-Some.fault) c.as_bytes.ensures c.in-Some.is (c.in_ok-fault.ensures declared))

pub loop-port-preserved : goal.loop-port-preserved
loop-port-preserved c =
    λ declared. part_more (λ (x : Port). enters (flat_name (texts c.args.at.now) x.name)) declared c.args.seen.now c.loop-port.seen _ c.args.ports.now c.loop-port.port-index c.port-item.result None (omega arith) c.port-item.is (c.loop-port.invariant declared)
    (found_as declared c.loop-port.seen _ c.port-item.result.name c.as_bytes.result.now (texts c.args.at.now) _ None c.as_bytes.ensures c.in-None.is (c.in_ok-fault.ensures declared))

pub returns : goal.returns
returns c =
    λ declared. subst (λ (xs : List Port). Checks declared c.args.seen.now (port_checks (texts c.args.at.now) xs) None c.loop-port.seen) (take_all c.loop-port.port-index c.args.ports.now (omega arith)) (c.loop-port.invariant declared)
