use Rattle.register_gates.proofs.Identified.{ident as lemma}
use Rattle.register_gates.proofs.laws.ident_follows.Goals as goal

pub returns : goal.returns
returns c =
    lemma (record {
      parts = c.contained_parts.ensures;
      meets = c.contained_part_meets.ensures;
      registers = c.data_registers_follow.ensures;
      moments = c.moments_of_a_run.ensures;
    })
