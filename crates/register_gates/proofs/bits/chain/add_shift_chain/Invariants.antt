use Rattle.std.proofs.Common.{drop}
use Rattle.register_gates.proofs.ChainSteps.{Chained}
use Rattle.register_gates.proofs.bits.chain.add_shift_chain.Given as goal

abbrev pub invariant-loop-place : goal.invariant-loop-place
invariant-loop-place l = Chained l.fn.netlist l.netlist l.steering l.fn.tdi l.last (drop l.place l.captured)
