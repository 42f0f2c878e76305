use Rattle.status_gates.proofs.Told.{shown_tells}
use Rattle.status_gates.proofs.shown_tells.Goals as goal

pub returns : goal.returns
returns c = shown_tells c.contained_part_meets.ensures
