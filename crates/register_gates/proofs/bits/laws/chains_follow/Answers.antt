use Rattle.register_gates.proofs.ChainBits.{chains as lemma}
use Rattle.register_gates.proofs.bits.laws.chains_follow.Goals as goal

pub returns : goal.returns
returns c = lemma c.shift_bits_follow.ensures
