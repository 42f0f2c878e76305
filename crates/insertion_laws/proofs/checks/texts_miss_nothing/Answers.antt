use Rattle.insertion_laws.proofs.Chips.{texts_miss_nothing as lemma}
use Rattle.insertion_laws.proofs.checks.texts_miss_nothing.Goals as goal

pub returns : goal.returns
returns c = lemma c.texts_have_chips.ensures c.scripts_are_met.ensures
