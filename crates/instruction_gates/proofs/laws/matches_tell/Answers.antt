use Rattle.instruction_gates.proofs.MatchedBits.{told as lemma}
use Rattle.instruction_gates.proofs.laws.matches_tell.Goals as goal

pub returns : goal.returns
returns c = lemma c.contained_parts.ensures c.contained_part_meets.ensures
