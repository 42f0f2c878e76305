use Rattle.register_gates.proofs.DataRegisters.{follows as lemma}
use Rattle.register_gates.proofs.laws.data_registers_follow.Goals as goal

pub returns : goal.returns
returns c = lemma (record { parts = c.contained_parts.ensures; meets = c.contained_part_meets.ensures; chains = c.chains_follow.ensures })
