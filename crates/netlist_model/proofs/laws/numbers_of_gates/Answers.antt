use Rattle.netlist_model.proofs.Ordered.{numbered_is_ordered}
use Rattle.netlist_model.proofs.laws.numbers_of_gates.Goals as goal

pub returns : goal.returns
returns c = numbered_is_ordered
