use Rattle.std.proofs.Common.{length}
use Rattle.netlist_model.specs.Lists.{cell_count}
use Rattle.netlist_model.specs.Contained.{IsDense}
use Rattle.gate_parts.specs.Appended.{Appended}
use Rattle.status_gates.specs.Opcodes.{inverses_cells}
use Rattle.status_gates.proofs.inverses.add_inverses.Given as goal

abbrev pub invariant-loop-place : goal.invariant-loop-place
invariant-loop-place l = record {
  added : Appended l.fn.netlist l.netlist l.place (inverses_cells (length l.fn.netlist.lists.nets) (cell_count l.fn.netlist.lists) l.fn.opcode.0 l.place);
  dense : IsDense l.netlist.lists;
}
