use Rattle.wrapped_chip.proofs.Home.{home_there as lemma}
use Rattle.wrapped_chip.proofs.copies.renumbered_finds_home_by.Goals as goal

pub returns : goal.returns
returns c = lemma
    (record {
      ways = c.direction_of_a_bit.ensures;
      turns = c.renumbering_turns.ensures;
      bits = c.renumbered_bits.ensures;
      reads = c.renumbered_reads.ensures;
      runs = c.renumbered_runs.ensures;
      images = c.runs_have_images.ensures;
    })
