use Rattle.std.proofs.Common.{◌≡◌, drop}
use Rattle.bsdl_device.specs.Checks as rule
use Rattle.bsdl_port_rules.proofs.instructions.some_clash.Given as goal

abbrev pub invariant-loop-i : goal.invariant-loop-i
invariant-loop-i l = rule.any_pair rule.opcodes_clash (drop l.i l.opcodes) ≡ rule.any_pair rule.opcodes_clash l.opcodes
