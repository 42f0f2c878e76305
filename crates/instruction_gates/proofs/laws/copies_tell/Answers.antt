use Rattle.instruction_gates.proofs.Copied.{carried as lemma}
use Rattle.instruction_gates.proofs.laws.copies_tell.Goals as goal

pub returns : goal.returns
returns c = lemma c.contained_parts.ensures c.contained_part_meets.ensures
