use Rattle.netlist_model.proofs.Forms.{copy_is_renumbering}
use Rattle.netlist_model.proofs.images.copy_is_renumbering.Goals as goal

pub returns : goal.returns
returns c = copy_is_renumbering
