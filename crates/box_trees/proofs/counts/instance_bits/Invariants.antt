use Rattle.std.proofs.Common.{◌≡◌, take, sum_by}
use Rattle.link_model.specs.Faults.{counted}
use Rattle.box_model.specs.Counts.{parted_at}
use Rattle.box_trees.proofs.counts.instance_bits.Given as goal

abbrev pub invariant-loop-port : goal.invariant-loop-port
invariant-loop-port l = l.bits ≡ counted (sum_by (parted_at l.nets l.instance) (take l.port-index l.ports))
