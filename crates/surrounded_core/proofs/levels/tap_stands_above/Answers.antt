use Rattle.surrounded_core.proofs.Registers.{tap as lemma}
use Rattle.surrounded_core.proofs.levels.tap_stands_above.Goals as goal

pub returns : goal.returns
returns c = lemma
