use Rattle.netlist_model.proofs.Renumbered.{renumbered_ports}
use Rattle.netlist_model.proofs.images.renumbered_ports.Goals as goal

pub returns : goal.returns
returns c = renumbered_ports
