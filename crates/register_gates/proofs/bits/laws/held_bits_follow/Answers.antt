use Rattle.register_gates.proofs.HeldBit.{held_bits as lemma}
use Rattle.register_gates.proofs.bits.laws.held_bits_follow.Goals as goal

pub returns : goal.returns
returns c = lemma c.contained_part_meets.ensures c.contained_part_has_flops.ensures c.flop_starts.ensures c.flop_steps.ensures
