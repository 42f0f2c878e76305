use Rattle.hier_laws.proofs.Blocks.{places_resolve}
use Rattle.hier_laws.proofs.solutions.laws.places_resolve.Goals as goal

pub returns : goal.returns
returns c = places_resolve
