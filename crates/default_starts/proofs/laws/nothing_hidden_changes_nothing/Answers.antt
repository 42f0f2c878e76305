use Rattle.default_starts.proofs.Kept.{none_added, same_rules}
use Rattle.default_starts.proofs.laws.nothing_hidden_changes_nothing.Goals as goal

pub returns : goal.returns
returns c = record { lines = none_added; rules = same_rules }
