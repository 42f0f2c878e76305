use Rattle.hier_laws.proofs.OwnBits.{stays_own_bits}
use Rattle.hier_laws.proofs.solutions.laws.stays_own_bits.Goals as goal

pub returns : goal.returns
returns c = stays_own_bits
