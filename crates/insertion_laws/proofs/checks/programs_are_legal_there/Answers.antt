use Rattle.insertion_laws.proofs.Chips.{programs_are_legal_there as lemma}
use Rattle.insertion_laws.proofs.checks.programs_are_legal_there.Goals as goal

pub returns : goal.returns
returns c = lemma c.texts_have_chips.ensures c.programs_are_legal.ensures
