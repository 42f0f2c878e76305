use Rattle.hier_laws.proofs.OwnLinks.{entries_own_bits}
use Rattle.hier_laws.proofs.solutions.laws.entries_own_bits.Goals as goal

pub returns : goal.returns
returns c = entries_own_bits
