use Rattle.surrounded_core.proofs.Lengths.{lengths as lemma}
use Rattle.surrounded_core.proofs.rows.lengths_stay.Goals as goal

pub returns : goal.returns
returns c = lemma
