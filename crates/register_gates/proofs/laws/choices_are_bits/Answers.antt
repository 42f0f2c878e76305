use Rattle.register_gates.proofs.ChoiceBits.{choices as lemma}
use Rattle.register_gates.proofs.laws.choices_are_bits.Goals as goal

pub returns : goal.returns
returns c = lemma
