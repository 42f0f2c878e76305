use Rattle.surrounded_core.proofs.Registers.{tdo as lemma}
use Rattle.surrounded_core.proofs.levels.tdo_stands_above.Goals as goal

pub returns : goal.returns
returns c = lemma
