use Rattle.status_build.proofs.Named.{status_named}
use Rattle.status_build.proofs.build.status_is_named.Goals as goal

pub returns : goal.returns
returns c = status_named c.appended_is_named.ensures c.appended_grows.ensures c.registers_are_named.ensures
