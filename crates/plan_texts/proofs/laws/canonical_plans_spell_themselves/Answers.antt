use Rattle.plan_texts.proofs.Again.{plan_reads_back}
use Rattle.plan_texts.proofs.laws.canonical_plans_spell_themselves.Goals as goal

pub returns : goal.returns
returns c = plan_reads_back c.rows_of_texts_are_rows.ensures c.texts_of_rows_read_back.ensures
