use Rattle.cell_order.specs.Marks.{IsCarried}
use Rattle.cell_order.proofs.derived.mark_derived.Given as goal

abbrev pub invariant-loop-place : goal.invariant-loop-place
invariant-loop-place l = IsCarried l.netlist.lists l.order l.initial.marks l.marks l.place
