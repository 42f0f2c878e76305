use Rattle.netlist_model.proofs.Contained.{dense_numbers}
use Rattle.netlist_model.proofs.laws.numbers_of_a_dense_netlist.Goals as goal

pub returns : goal.returns
returns c = dense_numbers
