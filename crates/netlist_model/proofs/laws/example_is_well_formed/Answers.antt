use Rattle.netlist_model.proofs.Example.{example_is_formed}
use Rattle.netlist_model.proofs.laws.example_is_well_formed.Goals as goal

pub returns : goal.returns
returns c = example_is_formed
