use Rattle.instruction_gates.proofs.Legible.{stay_legible as lemma}
use Rattle.instruction_gates.proofs.register.laws.instructions_stay_legible.Goals as goal

pub returns : goal.returns
returns c = lemma c.steps_by_register.ensures c.step_is_the_machines.ensures
