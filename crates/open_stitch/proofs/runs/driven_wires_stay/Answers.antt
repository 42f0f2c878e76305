use Rattle.open_stitch.proofs.RunsOpen.{driven_wires_stay}
use Rattle.open_stitch.proofs.runs.driven_wires_stay.Goals as goal

pub returns : goal.returns
returns c = driven_wires_stay c.direction_of_a_bit.ensures
