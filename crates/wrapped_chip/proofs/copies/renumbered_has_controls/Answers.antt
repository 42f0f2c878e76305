use Rattle.wrapped_chip.proofs.Controls.{controls_there as lemma}
use Rattle.wrapped_chip.proofs.copies.renumbered_has_controls.Goals as goal

pub returns : goal.returns
returns c = lemma
    (record {
      turns = c.renumbering_turns.ensures;
      bits = c.renumbered_bits.ensures;
      ways = c.renumbered_directions.ensures;
      ports = c.renumbered_ports.ensures;
    })
