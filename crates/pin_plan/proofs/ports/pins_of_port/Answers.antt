use Rattle.std.proofs.Common.{ℕ, List, ◌∙◌, ap}
use Rattle.netlist_link.specs.PinWords.{pin_at}
use Rattle.plan_texts.specs.declared.plan.PinLine.{PinLine}
use Rattle.plan_fitting.specs.Devices.{pin_for}
use Rattle.pin_plan.proofs.PortLists.{pins_more}
use Rattle.pin_plan.proofs.ports.pins_of_port.Goals as goal

pub loop-bit-preserved : goal.loop-bit-preserved
loop-bit-preserved c =
    pins_more (λ (bit : ℕ). pin_for c.args.plan.now.pins c.args.bits.now (pin_at c.args.port.0 bit)) c.loop-bit.bit c.loop-bit.pins c.push.new.self c.in_ok-pin_for.field-0 c.loop-bit.invariant
    (c.in_ok-pin_for.ensures ∙ ap (λ (lines : List PinLine). pin_for lines c.args.bits.now (pin_at c.args.port.0 c.loop-bit.bit)) c.as_slice.ensures) c.in_ok-push.ensures.ok
