use Rattle.std.proofs.Common.{◌≡◌}
use Rattle.event_sim.proofs.Simulators.{reading_kept}
use Rattle.event_sim.proofs.sim.EventSim.reading.Goals as goal

pub returns : goal.returns
returns c =
    let started = rw (← c.self.view_is) at c.requires.started in
    let named = rw c.netlist.ensures.netlist at c.pin_net-net.ensures.value in
    let got = rw (c.as_slice.ensures.value, c.as_slice-2.ensures.value, c.as_slice-3.ensures.value) at c.reading.ensures in
    rw (← c.self.view_is) (reading_kept c.self.inside.linked.now _ c.self.inside.pins.items c.self.inside.values.items c.self.inside.state.items c.self.inside.drives.items c.args.pin c.pin_net-net.result _
    c.self.invariant.tables.lists_are named (c.self.invariant.rest started).rest got)
