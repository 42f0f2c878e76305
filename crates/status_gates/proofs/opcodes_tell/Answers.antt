use Rattle.status_gates.proofs.Told.{opcodes_tell}
use Rattle.status_gates.proofs.opcodes_tell.Goals as goal

pub returns : goal.returns
returns c = opcodes_tell (record { parts = c.contained_parts.ensures; meets = c.contained_part_meets.ensures })
