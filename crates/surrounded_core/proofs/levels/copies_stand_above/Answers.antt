use Rattle.surrounded_core.proofs.Instructions.{copies as lemma}
use Rattle.surrounded_core.proofs.levels.copies_stand_above.Goals as goal

pub returns : goal.returns
returns c = lemma
