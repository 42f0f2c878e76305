use Rattle.std.proofs.Common.{◌≡◌, take, sum_by}
use Rattle.link_model.specs.Faults.{counted}
use Rattle.box_model.specs.Counts.{parted_bits}
use Rattle.box_trees.proofs.counts.added_bits.Given as goal

abbrev pub invariant-loop-item : goal.invariant-loop-item
invariant-loop-item l = l.bits ≡ counted (sum_by (parted_bits l.table l.nets) (take l.item-index l.items))
