use Rattle.std.proofs.Common.{◌≡◌, ◌++◌, drop, filter}
use Rattle.texts.specs.Repeated.{texts}
use Rattle.box_tables.specs.Links.{is_linked, link_names}
use Rattle.box_tables.proofs.link_table.ports_of.Given as goal

abbrev pub invariant-loop-link : goal.invariant-loop-link
invariant-loop-link l = texts l.names.items ++ link_names (filter is_linked (drop l.link-index l.links)) ≡ link_names (filter is_linked l.links)
