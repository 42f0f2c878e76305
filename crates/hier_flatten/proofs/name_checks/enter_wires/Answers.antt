use Rattle.std.proofs.Common.{List, Some, None, subst, arith}
use Rattle.verilog_tree.specs.declared.tree.Wire.{Wire}
use Rattle.hier_model.specs.Walks.{texts}
use Rattle.hier_model.specs.Names.{flat_name}
use Rattle.hier_model.specs.Faults.{enters}
use Rattle.std.proofs.lemmas.List.{take_all}
use Rattle.hier_flatten.specs.NameChecks.{Checks, wire_checks}
use Rattle.hier_flatten.proofs.EnterLaws.{part_more, part_stops, found_as}
use Rattle.hier_flatten.proofs.name_checks.enter_wires.Goals as goal

pub returns-in-Some : goal.returns-in-Some
returns-in-Some c =
    λ declared. part_stops (λ (x : Wire). enters (flat_name (texts c.args.at.now) x.name)) declared c.args.seen.now c.loop-wire.seen _ c.args.wires.now c.loop-wire.wire-index c.wire-item.result c.in-Some.fault (omega arith) c.wire-item.is (c.loop-wire.invariant declared)
    (found_as declared c.loop-wire.seen _ c.wire-item.result.name c.as_bytes.result.now (texts c.args.at.now) _ (Some c.in-Some.fault) c.as_bytes.ensures c.in-Some.is (c.in_ok-fault.ensures declared))

pub loop-wire-preserved : goal.loop-wire-preserved
loop-wire-preserved c =
    λ declared. part_more (λ (x : Wire). enters (flat_name (texts c.args.at.now) x.name)) declared c.args.seen.now c.loop-wire.seen _ c.args.wires.now c.loop-wire.wire-index c.wire-item.result None (omega arith) c.wire-item.is (c.loop-wire.invariant declared)
    (found_as declared c.loop-wire.seen _ c.wire-item.result.name c.as_bytes.result.now (texts c.args.at.now) _ None c.as_bytes.ensures c.in-None.is (c.in_ok-fault.ensures declared))

pub returns : goal.returns
returns c =
    λ declared. subst (λ (xs : List Wire). Checks declared c.args.seen.now (wire_checks (texts c.args.at.now) xs) None c.loop-wire.seen) (take_all c.loop-wire.wire-index c.args.wires.now (omega arith)) (c.loop-wire.invariant declared)
