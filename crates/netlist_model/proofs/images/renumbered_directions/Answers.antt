use Rattle.netlist_model.proofs.Renumbered.{renumbered_directions}
use Rattle.netlist_model.proofs.images.renumbered_directions.Goals as goal

pub returns : goal.returns
returns c = renumbered_directions
