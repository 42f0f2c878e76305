use Rattle.status_build.proofs.Grown.{grown_controls}
use Rattle.status_build.proofs.control_ports.grown_has_controls.Goals as goal

pub returns : goal.returns
returns c = grown_controls
