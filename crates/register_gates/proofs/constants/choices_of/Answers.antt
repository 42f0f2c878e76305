use Rattle.std.proofs.Common.{refl, ◌∙◌, arith}
use Rattle.std.proofs.lemmas.List.{length-set}
use Rattle.register_gates.proofs.ChoiceBits.{choices_more, choices_all}
use Rattle.register_gates.proofs.constants.choices_of.Goals as goal

pub loop-place-init : goal.loop-place-init
loop-place-init c = record { long = refl; written = refl }

pub loop-place-preserved : goal.loop-place-preserved
loop-place-preserved c = record {
  long = length-set c.loop-place.chosen c.loop-place.place _ ∙ c.loop-place.invariant.long;
  written = choices_more c.loop-place.chosen 32 c.loop-place.place c.loop-place.code_rest c.loop-place.user_rest c.args.on c.args.off c.choice.result _ c.choice.ensures
      (omega (arith, c.loop-place-test.true)) (omega (arith, c.loop-place-test.true, c.loop-place.invariant.long)) c.loop-place.invariant.written;
}

pub returns : goal.returns
returns c = choices_all c.loop-place.chosen 32 c.loop-place.place c.loop-place.code_rest c.loop-place.user_rest c.args.on c.args.off _ (omega (arith, c.loop-place-test.false))
    (omega (arith, c.loop-place-test.false, c.loop-place.invariant.long)) c.loop-place.invariant.written
