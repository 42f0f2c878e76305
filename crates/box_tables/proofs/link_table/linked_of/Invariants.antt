use Rattle.std.proofs.Common.{◌≡◌, ◌++◌, drop, filter}
use Rattle.box_tables.specs.Links.{is_linked, lent_links}
use Rattle.box_tables.proofs.link_table.linked_of.Given as goal

abbrev pub invariant-loop-link : goal.invariant-loop-link
invariant-loop-link l = lent_links l.linked.items ++ filter is_linked (drop l.link-index l.links) ≡ filter is_linked l.links
