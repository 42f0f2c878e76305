use Rattle.std.proofs.Common.{◌∙◌}
use Rattle.texts.proofs.Tables.{list_any-texts}
use Rattle.hier_flatten.proofs.links.is_linked.Goals as goal

pub returns : goal.returns
returns c = c.contains.ensures ∙ list_any-texts c.args.name.now c.args.names.now.keys
