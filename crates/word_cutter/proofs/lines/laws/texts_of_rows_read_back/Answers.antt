use Rattle.word_cutter.proofs.Written.{rows_read_back}
use Rattle.word_cutter.proofs.lines.laws.texts_of_rows_read_back.Goals as goal

pub returns : goal.returns
returns c = rows_read_back
