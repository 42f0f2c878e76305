use Rattle.std.proofs.Common.{◌≡◌, ◌-◌, length}
use Rattle.gate_parts.specs.Parts.{added_nets}
use Rattle.core_sides.specs.stitched_netlist.Stitched.{with_nets}
use Rattle.test_logic_parts.proofs.port.add_sides.Given as goal

abbrev pub invariant-loop : goal.invariant-loop
invariant-loop l = record {
  lists : l.netlist.lists ≡ with_nets (added_nets (length l.fn.netlist.lists.nets) l.counter) l.fn.netlist.lists;
  spare : l.netlist.spare ≡ record l.fn.netlist.spare { nets = l.fn.netlist.spare.nets - l.counter };
}
