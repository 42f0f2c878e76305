use Rattle.surrounded_core.proofs.LevelsRows.{rows as lemma}
use Rattle.surrounded_core.proofs.levels.rows_stand_above.Goals as goal

pub returns : goal.returns
returns c = lemma
