use Rattle.status_build.proofs.ReconnectedLaws.{is_formed}
use Rattle.status_build.proofs.reconnected.reconnected_is_formed.Goals as goal

pub returns : goal.returns
returns c = is_formed
