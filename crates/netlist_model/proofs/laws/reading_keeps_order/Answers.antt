use Rattle.netlist_model.proofs.Knowledge.{readings_keep_order}
use Rattle.netlist_model.proofs.laws.reading_keeps_order.Goals as goal

pub returns : goal.returns
returns c = readings_keep_order
