use Rattle.netlist_model.proofs.Moments.{controls_known}
use Rattle.netlist_model.proofs.laws.control_nets_are_known.Goals as goal

pub returns : goal.returns
returns c = controls_known
