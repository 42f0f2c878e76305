use Rattle.register_gates.proofs.ConstantBits.{constants as lemma}
use Rattle.register_gates.proofs.laws.constants_are_bits.Goals as goal

pub returns : goal.returns
returns c = lemma
