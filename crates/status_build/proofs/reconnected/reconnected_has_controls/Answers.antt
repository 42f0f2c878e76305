use Rattle.status_build.proofs.ReconnectedLaws.{has_controls}
use Rattle.status_build.proofs.reconnected.reconnected_has_controls.Goals as goal

pub returns : goal.returns
returns c = has_controls
