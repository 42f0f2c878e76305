use Rattle.stitched_netlist.proofs.Pins.{has_pins as lemma}
use Rattle.stitched_netlist.proofs.ranks.stitched_has_pins.Goals as goal

pub returns : goal.returns
returns c = lemma c.bit_of_a_direction.ensures
