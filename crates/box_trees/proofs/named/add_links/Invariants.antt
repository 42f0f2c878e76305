use Rattle.std.proofs.Common.{◌≡◌, ◌++◌, take}
use Rattle.std.specs.List.{flat_map}
use Rattle.texts.specs.Repeated.{texts}
use Rattle.box_model.specs.Faults.{linked_name}
use Rattle.box_trees.proofs.named.add_links.Given as goal

abbrev pub invariant-loop-link : goal.invariant-loop-link
invariant-loop-link l = texts l.names.items ≡ texts l.initial.names.items ++ flat_map linked_name (take l.link-index l.links)
