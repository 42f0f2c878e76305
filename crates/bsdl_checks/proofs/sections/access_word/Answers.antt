use Rattle.std.proofs.Common.{arith}
use Rattle.bsdl_checks.proofs.Words.{code-length, word-access, fits-access}
use Rattle.bsdl_checks.proofs.sections.access_word.Goals as goal

pub code_count-requires : goal.code_count-requires
code_count-requires c = omega (arith, word-access c.args.file.now, fits-access c.args.file.now)

pub overflow_add-result : goal.overflow_add-result
overflow_add-result c = omega (arith, code-length c.args.file.now, word-access c.args.file.now, fits-access c.args.file.now)

pub returns : goal.returns
returns c = omega (arith, code-length c.args.file.now, word-access c.args.file.now)
