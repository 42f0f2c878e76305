use Rattle.std.proofs.Common.{drop}
use Rattle.netlist_model.specs.Contained.{IsDense}
use Rattle.status_gates.proofs.Added.{ToldFrom}
use Rattle.status_gates.proofs.opcodes.add_opcode.Given as goal

abbrev pub invariant-loop-place : goal.invariant-loop-place
invariant-loop-place l = record {
  gates : ToldFrom l.fn.netlist l.netlist l.fn.opcode.0 l.fn.inverses.0 l.place (drop l.place l.wanted) l.told;
  dense : IsDense l.netlist.lists;
}
