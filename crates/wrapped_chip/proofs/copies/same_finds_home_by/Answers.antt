use Rattle.wrapped_chip.proofs.Same.{same_finds_home as lemma}
use Rattle.wrapped_chip.proofs.copies.same_finds_home_by.Goals as goal

pub returns : goal.returns
returns c = lemma c.renumbered_finds_home_by.ensures
