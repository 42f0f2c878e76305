use Rattle.std.proofs.Common.{◌≡◌, None, take}
use Rattle.std.specs.List.{flat_map}
use Rattle.link_model.specs.Faults.{operand_bits}
use Rattle.hier_model.specs.Walks.{texts}
use Rattle.hier_model.specs.Faults.{bad_name_after}
use Rattle.hier_flatten.specs.NameChecks.{net_checks}
use Rattle.hier_flatten.proofs.name_checks.refer_operands.Given as goal

abbrev pub invariant-loop-operand : goal.invariant-loop-operand
invariant-loop-operand l = None ≡ bad_name_after (take l.around.declared l.seen) l.seen (net_checks (texts l.around.at.now) l.around.nets.now (flat_map operand_bits (take l.operand-index l.operands)))
