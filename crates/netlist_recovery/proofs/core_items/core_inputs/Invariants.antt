use Rattle.std.proofs.Common.{◌≡◌, map, take}
use Rattle.strip_model.specs.Core.{core_operand}
use Rattle.netlist_recovery.proofs.core_items.core_inputs.Given as goal

abbrev pub invariant-loop-input : goal.invariant-loop-input
invariant-loop-input l = l.core ≡ map (core_operand l.table) (take l.input-index l.inputs)
