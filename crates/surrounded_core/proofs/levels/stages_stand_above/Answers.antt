use Rattle.surrounded_core.proofs.Instructions.{stages as lemma}
use Rattle.surrounded_core.proofs.levels.stages_stand_above.Goals as goal

pub returns : goal.returns
returns c = lemma
