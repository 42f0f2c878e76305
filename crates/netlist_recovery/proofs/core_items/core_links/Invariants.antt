use Rattle.std.proofs.Common.{◌≡◌, map, take}
use Rattle.strip_model.specs.Core.{core_link}
use Rattle.netlist_recovery.proofs.core_items.core_links.Given as goal

abbrev pub invariant-loop-link : goal.invariant-loop-link
invariant-loop-link l = l.core ≡ map (core_link l.table) (take l.link-index l.links)
