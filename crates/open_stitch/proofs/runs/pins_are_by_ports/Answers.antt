use Rattle.open_stitch.proofs.RunsOpen.{pins_by_ports}
use Rattle.open_stitch.proofs.runs.pins_are_by_ports.Goals as goal

pub returns : goal.returns
returns c = pins_by_ports
