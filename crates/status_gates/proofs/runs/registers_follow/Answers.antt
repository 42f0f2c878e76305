use Rattle.status_gates.proofs.RunsLists.{registers_follow}
use Rattle.status_gates.proofs.runs.registers_follow.Goals as goal

pub returns : goal.returns
returns c = registers_follow (record { wires = c.wires_carry.ensures; gates = c.data_registers_follow.ensures })
