use Rattle.std.proofs.Common.{ℕ, List, ap, arith}
use Rattle.bsdl_checks.specs.Counts.{strings_count}
use Rattle.bsdl_checks.proofs.Words.{word-idcode, fits-idcode}
use Rattle.bsdl_checks.proofs.sections.idcode_word.Goals as goal

pub overflow_add-result : goal.overflow_add-result
overflow_add-result c = omega (arith, word-idcode c.args.file.now, fits-idcode c.args.file.now)

pub overflow_add-result-2 : goal.overflow_add-result-2
overflow_add-result-2 c = omega (arith, word-idcode c.args.file.now, fits-idcode c.args.file.now, ap (λ (s : List (List ℕ)). strings_count s) c.as_slice.ensures)
