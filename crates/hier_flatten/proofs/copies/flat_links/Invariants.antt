use Rattle.std.proofs.Common.{◌≡◌, take, map}
use Rattle.hier_model.specs.Walks.{texts}
use Rattle.hier_model.specs.Names.{flat_link}
use Rattle.hier_flatten.proofs.copies.flat_links.Given as goal

abbrev pub invariant-loop-link : goal.invariant-loop-link
invariant-loop-link l = l.flat ≡ map (flat_link (texts l.at)) (take l.link-index l.links)
