use Rattle.wrapped_chip.proofs.Same.{same_is_alone as lemma}
use Rattle.wrapped_chip.proofs.copies.same_is_alone.Goals as goal

pub returns : goal.returns
returns c = lemma c.renumbered_is_alone.ensures
