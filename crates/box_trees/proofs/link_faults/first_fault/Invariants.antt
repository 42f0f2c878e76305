use Rattle.std.proofs.Common.{◌≡◌, drop}
use Rattle.link_model.specs.Lists.{first_in}
use Rattle.box_model.specs.Faults.{link_fault}
use Rattle.box_trees.proofs.link_faults.first_fault.Given as goal

abbrev pub invariant-loop-item : goal.invariant-loop-item
invariant-loop-item l = first_in (link_fault l.table l.nets) (drop l.item-index l.items) ≡ first_in (link_fault l.table l.nets) l.items
