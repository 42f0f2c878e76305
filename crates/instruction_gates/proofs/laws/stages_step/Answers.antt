use Rattle.instruction_gates.proofs.StagesFollow.{step as lemma}
use Rattle.instruction_gates.proofs.laws.stages_step.Goals as goal

pub returns : goal.returns
returns c =
    lemma (record {
      parts = c.contained_parts.ensures;
      meets = c.contained_part_meets.ensures;
      chains = c.chains_follow.ensures;
      latches = c.latches_follow.ensures;
      steps = c.steps_by_register.ensures;
      moments = c.moments_of_a_run.ensures;
    })
