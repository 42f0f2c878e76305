use Rattle.register_gates.proofs.Added.{in_turn as lemma}
use Rattle.register_gates.proofs.laws.added_in_turn.Goals as goal

pub returns : goal.returns
returns c = lemma c.appended_count.ensures c.appended_more.ensures
