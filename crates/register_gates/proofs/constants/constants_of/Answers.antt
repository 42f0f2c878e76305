use Rattle.std.proofs.Common.{refl, ◌∙◌, arith}
use Rattle.std.proofs.lemmas.List.{length-set}
use Rattle.register_gates.proofs.ConstantBits.{constants_more, constants_all}
use Rattle.register_gates.proofs.constants.constants_of.Goals as goal

pub loop-place-init : goal.loop-place-init
loop-place-init c = record { long = refl; written = refl }

pub loop-place-preserved : goal.loop-place-preserved
loop-place-preserved c = record {
  long = length-set c.loop-place.constants c.loop-place.place _ ∙ c.loop-place.invariant.long;
  written = constants_more c.loop-place.constants 32 c.loop-place.place c.loop-place.rest _ (omega (arith, c.loop-place-test.true))
      (omega (arith, c.loop-place-test.true, c.loop-place.invariant.long)) c.loop-place.invariant.written;
}

pub returns : goal.returns
returns c = constants_all c.loop-place.constants 32 c.loop-place.place c.loop-place.rest _ (omega (arith, c.loop-place-test.false))
    (omega (arith, c.loop-place-test.false, c.loop-place.invariant.long)) c.loop-place.invariant.written
