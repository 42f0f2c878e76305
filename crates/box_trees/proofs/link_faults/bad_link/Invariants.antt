use Rattle.std.proofs.Common.{◌≡◌, [], drop}
use Rattle.texts.specs.Repeated.{seen}
use Rattle.box_model.specs.Faults as faults
use Rattle.box_trees.proofs.link_faults.bad_link.Given as goal

abbrev pub invariant-loop-link : goal.invariant-loop-link
invariant-loop-link l = faults.bad_link l.nets l.ports l.whole (seen l.had) (drop l.link-index l.links) ≡ faults.bad_link l.nets l.ports l.whole [] l.links
