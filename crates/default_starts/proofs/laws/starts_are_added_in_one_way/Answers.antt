use Rattle.default_starts.proofs.Kept.{each_has_number, one_with_starts}
use Rattle.default_starts.proofs.laws.starts_are_added_in_one_way.Goals as goal

pub returns : goal.returns
returns c = record { once = one_with_starts; numbered = each_has_number }
