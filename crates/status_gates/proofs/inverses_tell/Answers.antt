use Rattle.status_gates.proofs.Told.{inverses_tell}
use Rattle.status_gates.proofs.inverses_tell.Goals as goal

pub returns : goal.returns
returns c = inverses_tell (record { parts = c.contained_parts.ensures; meets = c.contained_part_meets.ensures })
