use Rattle.status_build.proofs.Handed.{registers_formed}
use Rattle.status_build.proofs.formed.registers_are_formed.Goals as goal

pub returns : goal.returns
returns c = registers_formed c.parts_are_formed.ensures c.constants_are_bits.ensures
