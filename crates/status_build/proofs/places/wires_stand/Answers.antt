use Rattle.status_build.proofs.Shared.{wires_there}
use Rattle.status_build.proofs.places.wires_stand.Goals as goal

pub returns : goal.returns
returns c = wires_there
