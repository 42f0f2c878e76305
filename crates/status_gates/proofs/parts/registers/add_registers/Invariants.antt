use Rattle.std.proofs.Common.{drop}
use Rattle.netlist_model.specs.Contained.{IsDense}
use Rattle.status_gates.proofs.PartsAdded.{AddedFrom}
use Rattle.status_gates.proofs.parts.registers.add_registers.Given as goal

abbrev pub invariant-loop-place : goal.invariant-loop-place
invariant-loop-place l = record {
  gates : AddedFrom l.fn.netlist l.netlist l.shared l.fn.bypass (drop l.place l.registers) l.shown;
  dense : IsDense l.netlist.lists;
}
