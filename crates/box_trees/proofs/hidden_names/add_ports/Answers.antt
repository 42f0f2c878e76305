use Rattle.std.proofs.Common.{◌∙◌}
use Rattle.box_trees.proofs.hidden_names.add_ports.Goals as goal

pub name_at-requires : goal.name_at-requires
name_at-requires c = c.in_ok-links.ensures ∙ c.as_slice.ensures
