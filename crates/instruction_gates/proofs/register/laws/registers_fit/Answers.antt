use Rattle.instruction_gates.proofs.Rules.{fits as lemma}
use Rattle.instruction_gates.proofs.register.laws.registers_fit.Goals as goal

pub returns : goal.returns
returns c = lemma
