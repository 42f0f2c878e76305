use Rattle.std.proofs.Common.{arith}
use Rattle.texts.proofs.list_laws.Numbers.{few_digits}
use Rattle.word_cutter.proofs.digits.with_digit.Goals as goal

pub overflow_mul-result : goal.overflow_mul-result
overflow_mul-result c = omega (arith, few_digits c.args.count c.requires.few)

pub overflow_add-result : goal.overflow_add-result
overflow_add-result c = omega (arith, few_digits c.args.count c.requires.few)
