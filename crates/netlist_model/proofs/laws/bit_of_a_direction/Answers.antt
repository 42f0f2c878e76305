use Rattle.netlist_model.proofs.Ports.{direction_has_bit}
use Rattle.netlist_model.proofs.laws.bit_of_a_direction.Goals as goal

pub returns : goal.returns
returns c = direction_has_bit
