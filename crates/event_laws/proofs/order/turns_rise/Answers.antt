use Rattle.event_laws.proofs.Rises.{turns_rise}
use Rattle.event_laws.proofs.order.turns_rise.Goals as goal

pub returns : goal.returns
returns c = turns_rise
