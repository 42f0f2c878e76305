use Rattle.surrounded_core.proofs.Registers.{bypass as lemma}
use Rattle.surrounded_core.proofs.levels.bypass_stands_above.Goals as goal

pub returns : goal.returns
returns c = lemma
