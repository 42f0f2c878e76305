use Rattle.instruction_gates.proofs.Follows.{follow as lemma}
use Rattle.instruction_gates.proofs.register.laws.instruction_follows.Goals as goal

pub returns : goal.returns
returns c =
    lemma (record {
      parts = c.contained_parts.ensures;
      stages = c.stages_follow.ensures;
      matches = c.matches_tell.ensures;
      selections = c.selections_tell.ensures;
      copies = c.copies_tell.ensures;
      constants = c.constants_are_bits.ensures;
      steps = c.steps_by_register.ensures;
      moments = c.moments_of_a_run.ensures;
    })
