use Rattle.open_stitch.proofs.Connected.{connected_extends}
use Rattle.open_stitch.proofs.runs.connected_extends.Goals as goal

pub returns : goal.returns
returns c = connected_extends
