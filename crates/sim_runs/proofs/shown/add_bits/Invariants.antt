use Rattle.std.proofs.Common.{◌≡◌, ◌++◌, map, take}
use Rattle.std.specs.List.{slice_get}
use Rattle.sim_runs.specs.Bits.{HavePins, net_at, port_nets}
use Rattle.sim_runs.proofs.shown.add_bits.Given as goal

abbrev pub invariant-loop-bit : goal.invariant-loop-bit
invariant-loop-bit l = record {
  pins : HavePins l.netlist.lists l.bits.items;
  nets : map net_at l.bits.items ≡ map net_at l.fn.bits.items ++ take l.bit (port_nets (slice_get l.netlist.lists.ports l.port.0));
}
