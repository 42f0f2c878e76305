use Rattle.std.proofs.Common.{Some, None, ap}
use Rattle.hier_model.specs.Walks.{texts}
use Rattle.hier_flatten.specs.NameChecks.{port_checks, wire_checks}
use Rattle.hier_flatten.proofs.NameLaws.{stops}
use Rattle.hier_flatten.proofs.EnterLaws.{ports_as, then_rest, of_equal}
use Rattle.hier_flatten.proofs.name_checks.enter_nets.Goals as goal

pub returns-in-Some : goal.returns-in-Some
returns-in-Some c =
    let at = texts c.args.at.now in
    let m = c.args.module.now in
    λ declared. stops declared c.args.seen.now (port_checks at m.ports) (wire_checks at m.wires) c.in-Some.fault c.enter_ports.new.seen c.enter_ports.new.seen
    (ports_as declared c.args.seen.now c.enter_ports.new.seen at m.ports c.as_slice.result.now _ (Some c.in-Some.fault) c.as_slice.ensures c.in-Some.is (c.in_ok-fault.ensures declared))

pub returns-in-None : goal.returns-in-None
returns-in-None c =
    let at = texts c.args.at.now in
    let m = c.args.module.now in
    then_rest c.args.seen.now c.enter_ports.new.seen c.enter_wires.new.seen (port_checks at m.ports) (wire_checks at m.wires) c.enter_wires.result
    (λ declared. ports_as declared c.args.seen.now c.enter_ports.new.seen at m.ports c.as_slice.result.now _ None c.as_slice.ensures c.in-None.is (c.in_ok-fault.ensures declared))
    (of_equal c.enter_ports.new.seen c.enter_wires.new.seen (wire_checks at c.as_slice-in-None.result.now) (wire_checks at m.wires) c.enter_wires.result (ap (wire_checks at) c.as_slice-in-None.ensures) c.enter_wires.ensures)
