use Rattle.netlist_model.proofs.Pins.{settled_exists}
use Rattle.netlist_model.proofs.laws.some_settled_valuation.Goals as goal

pub returns : goal.returns
returns c = settled_exists
