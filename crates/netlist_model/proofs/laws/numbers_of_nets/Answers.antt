use Rattle.netlist_model.proofs.Ordered.{ordered_is_numbered}
use Rattle.netlist_model.proofs.laws.numbers_of_nets.Goals as goal

pub returns : goal.returns
returns c = ordered_is_numbered
