use Rattle.surrounded_core.proofs.Instructions.{matches as lemma}
use Rattle.surrounded_core.proofs.levels.matches_stand_above.Goals as goal

pub returns : goal.returns
returns c = lemma
