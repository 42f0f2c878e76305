use Rattle.std.proofs.Common.{◌≡◌, drop}
use Rattle.netlist_model.specs.declared.What.TheVariants.{Operands}
use Rattle.link_model.specs.Lists.{first_in}
use Rattle.link_model.specs.Faults.{too_many, gate_operands}
use Rattle.box_trees.proofs.limits.find_wide_gate.Given as goal

abbrev pub invariant-loop-item : goal.invariant-loop-item
invariant-loop-item l = first_in (λ i. too_many Operands 256 (gate_operands i)) (drop l.item-index l.items) ≡ first_in (λ i. too_many Operands 256 (gate_operands i)) l.items
