use Rattle.word_cutter.proofs.Rows.{kept_are_rows}
use Rattle.word_cutter.proofs.lines.laws.rows_of_texts_are_rows.Goals as goal

pub returns : goal.returns
returns c = kept_are_rows
