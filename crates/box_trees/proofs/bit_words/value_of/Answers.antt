use Rattle.std.proofs.Common.{◌≡◌, ◌+◌, ◌*◌, ℕ, min, ap, ◌∙◌}
use Rattle.box_trees.proofs.Indexes.{value_next}
use Rattle.box_trees.proofs.bit_words.value_of.Goals as goal

pub loop-digit-preserved : goal.loop-digit-preserved
loop-digit-preserved c =
    value_next c.args.digits.now c.loop-digit.digit-index c.loop-digit.value c.saturating_add-value.result c.loop-digit-test.true c.loop-digit.invariant
    (c.saturating_add-value.ensures ∙ ap (λ (n : ℕ). min (n + c.from.result) 4294967295) c.saturating_mul.ensures
    ∙ ap (λ (n : ℕ). min (min (c.loop-digit.value * 10) 4294967295 + n) 4294967295) (c.from.ensures ∙ c.saturating_sub.ensures))
