use Rattle.insertion_laws.proofs.Chips.{written_programs_miss_nothing as lemma}
use Rattle.insertion_laws.proofs.checks.written_programs_miss_nothing.Goals as goal

pub returns : goal.returns
returns c = lemma c.texts_miss_nothing.ensures c.texts_of_events_are_spelled_or_at_fault.ensures.once
