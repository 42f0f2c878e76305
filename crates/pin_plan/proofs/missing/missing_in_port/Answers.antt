use Rattle.std.proofs.Common.{◌≡◌, ◌∙◌, length, ap, not, Some}
use Rattle.std.specs.Prelude.{slice_get}
use Rattle.std.specs.Option.{option_map}
use Rattle.netlist_model.specs.Lists.{PortView}
use Rattle.pin_plan.proofs.PortBits.{missing_found, missing_passed}
use Rattle.pin_plan.proofs.missing.missing_in_port.Goals as goal

pub returns-then-is_none : goal.returns-then-is_none
returns-then-is_none c =
    let wide : option_map (λ (p : PortView). length p.nets) (slice_get c.args.linked.now.arena.lists.ports c.args.port.0) ≡ Some c.port_width-bit-end.result = rw c.netlist.ensures.netlist at c.port_width-bit-end.ensures in
    missing_found c.args.linked.now c.args.bits.now c.args.port.0 c.loop-bit.bit c.port_width-bit-end.result c.in_ok-word_of.field-0 c.line_of.result _ wide c.loop-bit-test.true
    c.line_of.ensures (ap not (c.is_none.ensures ∙ ap not c.if-is_none.true)) c.in_ok-word_of.ensures c.loop-bit.invariant

pub loop-bit-preserved : goal.loop-bit-preserved
loop-bit-preserved c =
    let wide : option_map (λ (p : PortView). length p.nets) (slice_get c.args.linked.now.arena.lists.ports c.args.port.0) ≡ Some c.port_width-bit-end.result = rw c.netlist.ensures.netlist at c.port_width-bit-end.ensures in
    missing_passed c.args.linked.now c.args.bits.now c.args.port.0 c.loop-bit.bit c.port_width-bit-end.result c.line_of.result _ wide c.loop-bit-test.true
    c.line_of.ensures (ap not (c.is_none.ensures ∙ ap not c.if-is_none.false)) c.loop-bit.invariant
