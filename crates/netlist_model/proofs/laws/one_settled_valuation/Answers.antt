use Rattle.netlist_model.proofs.Pins.{settled_once}
use Rattle.netlist_model.proofs.laws.one_settled_valuation.Goals as goal

pub returns : goal.returns
returns c = settled_once
