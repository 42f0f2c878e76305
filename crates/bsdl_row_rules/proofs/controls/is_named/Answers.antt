use Rattle.std.proofs.Common.{◌∙◌}
use Rattle.bsdl_row_rules.proofs.controls.is_named.Goals as goal

pub returns : goal.returns
returns c = c.has_number.ensures ∙ c.requires.named c.args.number
