use Rattle.instruction_gates.proofs.SelectionsTold.{told as lemma}
use Rattle.instruction_gates.proofs.laws.selections_tell.Goals as goal

pub returns : goal.returns
returns c = lemma c.contained_part_meets.ensures
