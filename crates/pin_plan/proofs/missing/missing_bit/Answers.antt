use Rattle.std.proofs.Common.{◌≡◌, ◌∙◌, length, sym, arith, Some, None}
use Rattle.netlist_link.specs.Linked.{own_ports}
use Rattle.pin_plan.proofs.PortBits.{port_faults}
use Rattle.pin_plan.proofs.missing.missing_bit.Goals as goal

pub returns-in-Some : goal.returns-in-Some
returns-in-Some c =
    let count : c.own_port_count-number-end.result ≡ length (own_ports c.args.linked.now) = c.own_port_count-number-end.ensures in
    port_faults c.args.linked.now c.args.bits.now c.loop-number.number (Some c.in-Some.fault) _ (omega (arith, count, c.loop-number-test.true)) (sym c.in-Some.is ∙ c.in_ok-fault.ensures) c.loop-number.invariant

pub loop-number-preserved : goal.loop-number-preserved
loop-number-preserved c =
    let count : c.own_port_count-number-end.result ≡ length (own_ports c.args.linked.now) = c.own_port_count-number-end.ensures in
    port_faults c.args.linked.now c.args.bits.now c.loop-number.number None _ (omega (arith, count, c.loop-number-test.true)) (sym c.in-None.is ∙ c.in_ok-fault.ensures) c.loop-number.invariant
