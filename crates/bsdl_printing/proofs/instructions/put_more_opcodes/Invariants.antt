use Rattle.std.proofs.Common.{◌≡◌, ◌++◌, take}
use Rattle.bsdl_device.specs.Canonical.{each_after, next_string, opcode_text}
use Rattle.bsdl_printing.proofs.instructions.put_more_opcodes.Given as goal

abbrev pub invariant-loop-opcode : goal.invariant-loop-opcode
invariant-loop-opcode l = l.text ≡ l.fn.text ++ each_after next_string opcode_text (take l.opcode-index l.opcodes)
