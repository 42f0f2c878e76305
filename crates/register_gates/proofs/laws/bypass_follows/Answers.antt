use Rattle.register_gates.proofs.Bypass.{bypass as lemma}
use Rattle.register_gates.proofs.laws.bypass_follows.Goals as goal

pub returns : goal.returns
returns c =
    lemma (record {
      parts = c.contained_parts.ensures;
      meets = c.contained_part_meets.ensures;
      bits = c.shift_bits_follow.ensures;
      moments = c.moments_of_a_run.ensures;
    })
