use Rattle.status_room.proofs.Registers.{can_be_built}
use Rattle.status_room.proofs.ready.fitted_registers_can_be_built.Goals as goal

pub returns : goal.returns
returns c = can_be_built c.direction_of_a_bit.ensures
