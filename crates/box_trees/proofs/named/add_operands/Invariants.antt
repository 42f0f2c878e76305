use Rattle.std.proofs.Common.{◌≡◌, ◌++◌, take}
use Rattle.std.specs.List.{flat_map}
use Rattle.texts.specs.Repeated.{texts}
use Rattle.box_model.specs.Faults.{operand_name}
use Rattle.box_trees.proofs.named.add_operands.Given as goal

abbrev pub invariant-loop-operand : goal.invariant-loop-operand
invariant-loop-operand l = texts l.names.items ≡ texts l.initial.names.items ++ flat_map operand_name (take l.operand-index l.operands)
