use Rattle.std.proofs.Common.{length}
use Rattle.hier_model.specs.Walks.{left_in}
use Rattle.hier_model.specs.Entries.{level_limit}
use Rattle.hier_flatten.specs.Operands.{operand_count}
use Rattle.hier_flatten.proofs.OperandWalks.{Counts}
use Rattle.hier_flatten.proofs.operands.has_few_operands.Given as goal

abbrev pub invariant-loop-walk : goal.invariant-loop-walk
invariant-loop-walk l = Counts level_limit (operand_count l.fn.modules l.fn.top) l.walk l.left

abbrev pub decreases-loop-walk : goal.decreases-loop-walk
decreases-loop-walk l = length (left_in level_limit l.walk)
