use Rattle.std.proofs.Common.{◌∙◌}
use Rattle.bsdl_row_rules.proofs.Sets.{missing_alike}
use Rattle.bsdl_row_rules.proofs.boundary.misses_number.Goals as goal

pub returns : goal.returns
returns c = c.lacks_number.ensures ∙ missing_alike _ _ c.in_ok-set.ensures _
