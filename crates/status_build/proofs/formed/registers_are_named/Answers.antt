use Rattle.status_build.proofs.FormedNames.{registers_named}
use Rattle.status_build.proofs.formed.registers_are_named.Goals as goal

pub returns : goal.returns
returns c = registers_named c.part_is_named.ensures
