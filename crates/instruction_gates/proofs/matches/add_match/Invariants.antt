use Rattle.std.proofs.Common.{◌≡◌, length, drop}
use Rattle.instruction_gates.proofs.RowSteps.{Rowed}
use Rattle.instruction_gates.proofs.LatchAdded.{match_part}
use Rattle.instruction_gates.specs.Matches.{match_before}
use Rattle.instruction_gates.proofs.matches.add_match.Given as goal

abbrev pub invariant-loop-place : goal.invariant-loop-place
invariant-loop-place l = record {
  row : Rowed l.fn.netlist l.netlist 2 (match_part (length l.fn.netlist.lists.nets) l.fn.latches.0) (drop l.place l.wanted);
  told : l.told ≡ match_before (length l.fn.netlist.lists.nets) (length (drop l.place l.wanted));
}
