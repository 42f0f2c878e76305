use Rattle.insertion_laws.proofs.Together.{insertions_belong_together as lemma}
use Rattle.insertion_laws.proofs.laws.insertions_belong_together.Goals as goal

pub returns : goal.returns
returns c = lemma c.fitted_is_fitting.ensures c.spelled_trees_keep_the_conditions.ensures
