use Rattle.surrounded_core.proofs.ChipRows.{chip_rows as lemma}
use Rattle.surrounded_core.proofs.rows.chip_rows.Goals as goal

pub returns : goal.returns
returns c = lemma
