use Rattle.std.proofs.Common.{arith}
use Rattle.bsdl_checks.proofs.Words.{word-length, fits-length}
use Rattle.bsdl_checks.proofs.sections.length_word.Goals as goal

pub overflow_add-result : goal.overflow_add-result
overflow_add-result c = omega (arith, word-length c.args.file.now, fits-length c.args.file.now)
