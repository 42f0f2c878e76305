use Rattle.std.proofs.Common.{refl}
use Rattle.pin_plan.proofs.Marks.{bit_marked, port_marked}
use Rattle.pin_plan.proofs.hidden.mark_port.Goals as goal

pub loop-bit-preserved : goal.loop-bit-preserved
loop-bit-preserved c =
    bit_marked c.args.netlist.now.lists c.args.port.0 c.loop-bit.bit c.pin_net-net.result c.args.marks.now c.loop-bit.marks _ c.pin_net-net.ensures.value c.loop-bit.invariant refl

pub returns : goal.returns
returns c =
    port_marked c.args.netlist.now.lists c.args.port.0 c.loop-bit.bit c.port_width-bit-end.result c.args.marks.now c.loop-bit.marks c.port_width-bit-end.ensures
    (let past = c.loop-bit-test.false in past) c.loop-bit.invariant
