use Rattle.std.proofs.Common.{◌≡◌, ◌<◌, ◌^◌, ◌&&◌, ◌∙◌, Bool, true, false, ap, sym, arith}
use Rattle.std.specs.Fmt.{decimal}
use Rattle.std.specs.Str.{bytes_eq}
use Rattle.link_model.specs.Nets.{is_within}
use Rattle.box_trees.proofs.Indexes.{digits_held}
use Rattle.box_trees.proofs.bit_words.holds_digits.Goals as goal

pub returns-then-is_within : goal.returns-then-is_within
returns-then-is_within c =
    let r = c.args.range in
    let digits = c.args.digits.now in
    let v = c.value_of-index.result in
    let left : r.left < 2 ^ 32 = omega arith in
    let right : r.right < 2 ^ 32 = omega arith in
    c.is_decimal.ensures ∙ ap (λ (b : Bool). b && bytes_eq digits (decimal v)) (sym c.if-is_within.true ∙ c.is_within.ensures) ∙ digits_held r digits v left right c.value_of-index.ensures

pub returns-else-is_within : goal.returns-else-is_within
returns-else-is_within c =
    let r = c.args.range in
    let digits = c.args.digits.now in
    let v = c.value_of-index.result in
    let left : r.left < 2 ^ 32 = omega arith in
    let right : r.right < 2 ^ 32 = omega arith in
    c.if-is_within.false ∙ ap (λ (b : Bool). b && bytes_eq digits (decimal v)) (sym c.if-is_within.false ∙ c.is_within.ensures) ∙ digits_held r digits v left right c.value_of-index.ensures
