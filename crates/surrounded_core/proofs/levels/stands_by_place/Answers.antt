use Rattle.surrounded_core.proofs.Above.{by_place as lemma}
use Rattle.surrounded_core.proofs.levels.stands_by_place.Goals as goal

pub returns : goal.returns
returns c = lemma
