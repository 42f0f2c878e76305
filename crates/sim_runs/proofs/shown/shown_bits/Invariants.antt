use Rattle.std.proofs.Common.{◌≡◌, map, take}
use Rattle.std.specs.List.{flat_map}
use Rattle.netlist_model.specs.Lists.{PortView}
use Rattle.sim_runs.specs.Shown.{shown_of}
use Rattle.sim_runs.specs.Bits.{HavePins, net_at}
use Rattle.sim_runs.proofs.shown.shown_bits.Given as goal

abbrev pub invariant-loop-number : goal.invariant-loop-number
invariant-loop-number l = record {
  pins : HavePins l.netlist.lists l.bits.items;
  nets : map net_at l.bits.items ≡ flat_map (λ (port : PortView). shown_of port.dir port.nets) (take l.number l.netlist.lists.ports);
}
