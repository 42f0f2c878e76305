use Rattle.netlist_model.proofs.Knowledge.{settled_keeps_order}
use Rattle.netlist_model.proofs.laws.settling_keeps_order.Goals as goal

pub returns : goal.returns
returns c = settled_keeps_order
