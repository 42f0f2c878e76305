use Rattle.status_gates.proofs.Tdo.{extended_tdo_follows}
use Rattle.status_gates.proofs.runs.extended_tdo_follows.Goals as goal

pub returns : goal.returns
returns c = extended_tdo_follows (record { registers = c.registers_follow.ensures; gates = c.data_registers_follow.ensures })
