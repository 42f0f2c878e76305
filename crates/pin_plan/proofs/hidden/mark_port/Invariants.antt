use Rattle.std.proofs.Common.{◌≡◌, take}
use Rattle.pin_plan.specs.Marks.{marked, nets_at}
use Rattle.pin_plan.proofs.hidden.mark_port.Given as goal

abbrev pub invariant-loop-bit : goal.invariant-loop-bit
invariant-loop-bit l = l.marks ≡ marked (take l.bit (nets_at l.netlist.lists l.port.0)) l.initial.marks
