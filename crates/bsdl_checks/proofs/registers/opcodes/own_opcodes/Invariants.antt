use Rattle.std.proofs.Common.{◌≡◌, take}
use Rattle.bsdl_device.specs.Rules as rule
use Rattle.bsdl_checks.proofs.registers.opcodes.own_opcodes.Given as goal

abbrev pub invariant-loop-opcode : goal.invariant-loop-opcode
invariant-loop-opcode l = l.made ≡ rule.own_opcodes l.table (take l.opcode-index l.opcodes)
