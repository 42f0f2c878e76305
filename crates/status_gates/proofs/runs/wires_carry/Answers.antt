use Rattle.status_gates.proofs.CoreWires.{wires_carry}
use Rattle.status_gates.proofs.runs.wires_carry.Goals as goal

pub returns : goal.returns
returns c = wires_carry
