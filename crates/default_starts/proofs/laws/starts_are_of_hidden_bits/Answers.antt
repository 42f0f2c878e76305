use Rattle.default_starts.proofs.Kept.{starts_are_hidden}
use Rattle.default_starts.proofs.laws.starts_are_of_hidden_bits.Goals as goal

pub returns : goal.returns
returns c = starts_are_hidden
