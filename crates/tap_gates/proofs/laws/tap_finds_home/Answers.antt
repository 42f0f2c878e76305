use Rattle.tap_gates.proofs.Home.{finds_home as lemma}
use Rattle.tap_gates.proofs.laws.tap_finds_home.Goals as goal

pub returns : goal.returns
returns c =
    lemma (record {
      meets = c.contained_part_meets.ensures;
      flops = c.contained_part_has_flops.ensures;
      starts = c.flop_starts.ensures;
      steps = c.flop_steps.ensures;
      moments = c.moments_of_a_run.ensures;
    })
