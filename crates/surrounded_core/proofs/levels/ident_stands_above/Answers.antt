use Rattle.surrounded_core.proofs.Registers.{ident as lemma}
use Rattle.surrounded_core.proofs.levels.ident_stands_above.Goals as goal

pub returns : goal.returns
returns c = lemma c.constants_are_bits.ensures c.choices_are_bits.ensures
