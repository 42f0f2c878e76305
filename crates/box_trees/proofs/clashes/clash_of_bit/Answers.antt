use Rattle.std.proofs.Common.{true, false, refl, ◌∙◌, sym}
use Rattle.box_trees.proofs.FirstClash.{named_nowhere, named_first}
use Rattle.box_trees.proofs.clashes.clash_of_bit.Goals as goal

pub returns-in-None : goal.returns-in-None
returns-in-None c = named_nowhere c.args.hidden.now c.args.name.now c.args.digits.now c.requires c.in-None.ensures

pub returns-then-digits_within : goal.returns-then-digits_within
returns-then-digits_within c =
    named_first c.args.hidden.now c.args.name.now c.args.digits.now c.in-Some.first.now true c.as_bytes.result.now c.requires c.in-Some.ensures (sym c.if-digits_within.true ∙ c.digits_within.ensures) c.as_bytes.ensures

pub returns-else-digits_within : goal.returns-else-digits_within
returns-else-digits_within c =
    let first = c.in-Some.first.now in
    named_first c.args.hidden.now c.args.name.now c.args.digits.now first false first.name c.requires c.in-Some.ensures (sym c.if-digits_within.false ∙ c.digits_within.ensures) refl
