use Rattle.std.proofs.Common.{◌≡◌, [], drop}
use Rattle.texts.specs.Repeated.{seen}
use Rattle.hier_model.specs.Faults.{bad_link}
use Rattle.hier_flatten.proofs.links.bad_link.Given as goal

abbrev pub invariant-loop-link : goal.invariant-loop-link
invariant-loop-link l = bad_link l.parent l.child (seen l.had) (drop l.link-index l.links) ≡ bad_link l.parent l.child [] l.links
