use Rattle.std.proofs.Common.{◌≡◌, ◌∙◌, length, map, ap, arith}
use Rattle.netlist_link.specs.Linked.{own_ports}
use Rattle.plan_fitting.specs.Devices.{fit_port}
use Rattle.pin_plan.proofs.PortLists.{ports_more, take_all}
use Rattle.pin_plan.proofs.ports.fit_ports.Goals as goal

pub loop-number-preserved : goal.loop-number-preserved
loop-number-preserved c =
    ports_more c.args.linked.now c.args.plan.now c.args.bits.now c.loop-number.number c.loop-number.ports c.push.new.self c.in_ok-fit_port.field-0
    (let count : c.own_port_count-number-end.result ≡ length (own_ports c.args.linked.now) = c.own_port_count-number-end.ensures in omega (arith, count, c.loop-number-test.true))
    c.in_ok-fit_port.ensures c.loop-number.invariant c.in_ok-push.ensures.ok

pub returns : goal.returns
returns c =
    let count : c.own_port_count-number-end.result ≡ length (own_ports c.args.linked.now) = c.own_port_count-number-end.ensures in
    c.loop-number.invariant ∙ ap (map (fit_port c.args.linked.now c.args.plan.now c.args.bits.now)) (take_all c.loop-number.number 0 (own_ports c.args.linked.now) (omega (arith, count, c.loop-number-test.false)))
