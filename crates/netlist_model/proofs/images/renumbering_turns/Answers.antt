use Rattle.netlist_model.proofs.Forms.{renumbering_turns}
use Rattle.netlist_model.proofs.images.renumbering_turns.Goals as goal

pub returns : goal.returns
returns c = renumbering_turns
