use Rattle.std.proofs.Common.{arith}
use Rattle.bsdl_checks.proofs.Words.{word-opcode, fits-opcode}
use Rattle.bsdl_checks.proofs.sections.opcode_word.Goals as goal

pub overflow_add-result : goal.overflow_add-result
overflow_add-result c = omega (arith, word-opcode c.args.file.now, fits-opcode c.args.file.now)
