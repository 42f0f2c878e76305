use Rattle.std.proofs.Common.{◌≡◌, ◌∙◌, [], ap, arith, length}
use Rattle.std.specs.Option.{option_and_then}
use Rattle.netlist_model.specs.Lists.{PortView}
use Rattle.link_model.specs.Denoted.{name_bytes}
use Rattle.netlist_link.specs.Linked.{own_ports}
use Rattle.plan_fitting.proofs.OwnPorts.{own_same}
use Rattle.pin_plan.proofs.Collected.{text_collected}
use Rattle.pin_plan.proofs.netlist_names.port_names.Goals as goal

pub loop-number-preserved : goal.loop-number-preserved
loop-number-preserved c =
    let L = c.args.linked.now in
    let count : c.own_port_count-number-end.result ≡ length (own_ports L) = c.own_port_count-number-end.ensures in
    text_collected (λ (p : PortView). name_bytes L.names p.name) (own_ports L) c.loop-number.number c.text_of_port.result [] c.loop-number.names.items c.push.new.self.items
    (ap (option_and_then (λ (p : PortView). name_bytes L.names p.name)) (own_same L c.loop-number.number (omega (arith, count, c.loop-number-test.true))) ∙ c.text_of_port.ensures) c.loop-number.invariant c.in_ok-push.ensures.items
