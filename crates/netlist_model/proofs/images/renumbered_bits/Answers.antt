use Rattle.netlist_model.proofs.Forms.{renumbered_bits}
use Rattle.netlist_model.proofs.images.renumbered_bits.Goals as goal

pub returns : goal.returns
returns c = renumbered_bits
