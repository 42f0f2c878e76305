use Rattle.surrounded_core.proofs.Registers.{selections as lemma}
use Rattle.surrounded_core.proofs.levels.selections_stand_above.Goals as goal

pub returns : goal.returns
returns c = lemma
