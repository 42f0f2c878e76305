use Rattle.std.specs.List.{slice_get}
use Rattle.sim_runs.specs.declared.shown.Shown.{Shown}
use Rattle.sim_runs.proofs.Adds.{pins_more, nets_more}
use Rattle.sim_runs.proofs.shown.add_bits.Goals as goal

pub loop-bit-preserved : goal.loop-bit-preserved
loop-bit-preserved c =
    let N = c.args.netlist.now.lists in
    let bit : Shown = record { pin = record { port = c.args.port; bit = c.loop-bit.bit }; net = c.pin_net-net.result } in
    record {
      pins = pins_more N c.loop-bit.bits.items c.push.new.self.items bit c.loop-bit.invariant.pins c.pin_net-net.ensures.value c.in_ok-push.ensures.items;
      nets = nets_more (slice_get N.ports c.args.port.0) c.loop-bit.bit c.loop-bit.bits.items c.args.bits.now.items c.push.new.self.items bit c.pin_net-net.ensures.value c.loop-bit.invariant.nets c.in_ok-push.ensures.items;
    }
