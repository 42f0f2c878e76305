use Rattle.std.proofs.Common.{◌≡◌, take, map}
use Rattle.hier_model.specs.Walks.{texts}
use Rattle.hier_model.specs.Names.{flat_operand}
use Rattle.hier_flatten.proofs.copies.flat_operands.Given as goal

abbrev pub invariant-loop-operand : goal.invariant-loop-operand
invariant-loop-operand l = l.flat ≡ map (flat_operand (texts l.at)) (take l.operand-index l.operands)
