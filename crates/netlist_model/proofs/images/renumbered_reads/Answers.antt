use Rattle.netlist_model.proofs.Renumbered.{renumbered_reads}
use Rattle.netlist_model.proofs.images.renumbered_reads.Goals as goal

pub returns : goal.returns
returns c = renumbered_reads c.driver_is_found.ensures
