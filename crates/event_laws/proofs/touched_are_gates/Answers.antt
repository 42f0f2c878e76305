use Rattle.event_laws.proofs.TurnCounts.{touched_are_gates}
use Rattle.event_laws.proofs.touched_are_gates.Goals as goal

pub returns : goal.returns
returns c = touched_are_gates
