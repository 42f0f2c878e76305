use Rattle.insertion_laws.proofs.Chips.{program_texts_spell_programs as lemma}
use Rattle.insertion_laws.proofs.checks.program_texts_spell_programs.Goals as goal

pub returns : goal.returns
returns c = lemma
