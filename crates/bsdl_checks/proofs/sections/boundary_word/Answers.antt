use Rattle.std.proofs.Common.{arith}
use Rattle.bsdl_checks.proofs.Words.{word-boundary, word-all}
use Rattle.bsdl_checks.proofs.sections.boundary_word.Goals as goal

pub overflow_add-result : goal.overflow_add-result
overflow_add-result c = omega (arith, word-boundary c.args.file.now, word-all c.args.file.now)
