use Rattle.std.proofs.Common.{◌∙◌}
use Rattle.box_tables.proofs.link_table.LinkTable.of.Goals as goal

pub invariant_of-result : goal.invariant_of-result
invariant_of-result c = record { linked_are = c.in_ok-linked.ensures; names_are = c.in_ok-places.ensures ∙ c.in_ok-names.ensures }
