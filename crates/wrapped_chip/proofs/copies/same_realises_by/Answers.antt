use Rattle.wrapped_chip.proofs.Same.{same_realises as lemma}
use Rattle.wrapped_chip.proofs.copies.same_realises_by.Goals as goal

pub returns : goal.returns
returns c = lemma c.renumbered_realises_by.ensures
