use Rattle.register_gates.proofs.TdoFollows.{lets_go as lemma}
use Rattle.register_gates.proofs.laws.tdo_lets_go.Goals as goal

pub returns : goal.returns
returns c =
    lemma (record {
      parts = c.contained_parts.ensures;
      meets = c.contained_part_meets.ensures;
      flops = c.contained_part_has_flops.ensures;
      starts = c.flop_starts.ensures;
      steps = c.flop_steps.ensures;
      found = c.driver_is_found.ensures;
      moments = c.moments_of_a_run.ensures;
    })
