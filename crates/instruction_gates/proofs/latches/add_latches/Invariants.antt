use Rattle.std.proofs.Common.{drop}
use Rattle.instruction_gates.proofs.RowSteps.{Rowed}
use Rattle.instruction_gates.proofs.LatchAdded.{latch_part}
use Rattle.instruction_gates.proofs.latches.add_latches.Given as goal

abbrev pub invariant-loop-place : goal.invariant-loop-place
invariant-loop-place l = Rowed l.fn.netlist l.netlist 3 (latch_part l.latching l.fn.shifts.0) (drop l.place l.presets)
