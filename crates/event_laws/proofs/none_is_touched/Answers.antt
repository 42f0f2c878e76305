use Rattle.event_laws.proofs.TurnCounts.{none_is_touched}
use Rattle.event_laws.proofs.none_is_touched.Goals as goal

pub returns : goal.returns
returns c = none_is_touched
