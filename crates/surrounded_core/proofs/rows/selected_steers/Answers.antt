use Rattle.surrounded_core.proofs.Selections.{selected_steers as lemma}
use Rattle.surrounded_core.proofs.rows.selected_steers.Goals as goal

pub returns : goal.returns
returns c = lemma
