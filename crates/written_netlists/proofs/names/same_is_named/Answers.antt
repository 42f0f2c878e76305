use Rattle.written_netlists.proofs.Same.{same_named}
use Rattle.written_netlists.proofs.names.same_is_named.Goals as goal

pub returns : goal.returns
returns c = same_named
