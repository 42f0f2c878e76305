use Rattle.instruction_gates.proofs.LatchedBits.{latches as lemma}
use Rattle.instruction_gates.proofs.laws.latches_follow.Goals as goal

pub returns : goal.returns
returns c = lemma (record { parts = c.contained_parts.ensures; meets = c.contained_part_meets.ensures; held = c.held_bits_follow.ensures })
