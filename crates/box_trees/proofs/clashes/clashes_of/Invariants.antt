use Rattle.std.proofs.Common.{◌≡◌, ℕ, List, take}
use Rattle.texts.specs.Repeated.{has_name, texts}
use Rattle.box_trees.specs.HiddenNames.{clashes_among}
use Rattle.box_trees.proofs.clashes.clashes_of.Given as goal

abbrev pub invariant-loop-port : goal.invariant-loop-port
invariant-loop-port l = (name : List ℕ) → has_name (texts l.names.items) name ≡ clashes_among l.hidden (take l.port-index l.ports) name
