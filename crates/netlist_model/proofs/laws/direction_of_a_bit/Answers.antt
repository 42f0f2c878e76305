use Rattle.netlist_model.proofs.Ports.{bit_has_direction}
use Rattle.netlist_model.proofs.laws.direction_of_a_bit.Goals as goal

pub returns : goal.returns
returns c = bit_has_direction
