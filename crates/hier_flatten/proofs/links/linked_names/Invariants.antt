use Rattle.std.proofs.Common.{◌≡◌, ◌||◌, ℕ, List, drop}
use Rattle.texts.specs.Repeated.{has_name, seen}
use Rattle.hier_model.specs.Faults.{is_linked}
use Rattle.hier_flatten.proofs.links.linked_names.Given as goal

abbrev pub invariant-loop-link : goal.invariant-loop-link
invariant-loop-link l = (name : List ℕ) → (has_name (seen l.names) name || is_linked (drop l.link-index l.links) name) ≡ is_linked l.links name
