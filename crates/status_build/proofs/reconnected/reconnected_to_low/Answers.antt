use Rattle.status_build.proofs.ReconnectedLow.{to_low}
use Rattle.status_build.proofs.reconnected.reconnected_to_low.Goals as goal

pub returns : goal.returns
returns c = to_low
