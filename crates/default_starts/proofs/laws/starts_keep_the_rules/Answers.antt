use Rattle.default_starts.proofs.Kept.{illegal_with, legal_with, others_break, starts_break_none}
use Rattle.default_starts.proofs.laws.starts_keep_the_rules.Goals as goal

pub returns : goal.returns
returns c = record { added = starts_break_none; others = others_break; legal = legal_with; illegal = illegal_with }
