use Rattle.std.proofs.Common.{◌≡◌, ◌++◌, drop}
use Rattle.box_model.specs.Ports.{other_links}
use Rattle.box_trees.proofs.item_opening.other_links.Given as goal

abbrev pub invariant-loop-link : goal.invariant-loop-link
invariant-loop-link l = l.others ++ other_links l.ports (drop l.link-index l.links) ≡ other_links l.ports l.links
