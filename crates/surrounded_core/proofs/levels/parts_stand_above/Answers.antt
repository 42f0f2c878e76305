use Rattle.surrounded_core.proofs.Above.{joined as lemma}
use Rattle.surrounded_core.proofs.levels.parts_stand_above.Goals as goal

pub returns : goal.returns
returns c = lemma
