use Rattle.strip_model.proofs.Others.{other_lines_spell}
use Rattle.strip_model.proofs.plans.plans_with_other_lines_are_spelled.Goals as goal

pub returns : goal.returns
returns c = other_lines_spell c.rows_of_texts_are_rows.ensures c.texts_of_rows_read_back.ensures
