use Rattle.register_gates.proofs.Steps.{by_register as lemma}
use Rattle.register_gates.proofs.laws.steps_by_register.Goals as goal

pub returns : goal.returns
returns c = lemma
