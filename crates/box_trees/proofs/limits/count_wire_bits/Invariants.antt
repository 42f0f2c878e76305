use Rattle.std.proofs.Common.{◌≡◌, map, take}
use Rattle.link_model.specs.Nets.{wire_nets, bits_in}
use Rattle.link_model.specs.Faults.{counted}
use Rattle.box_trees.proofs.limits.count_wire_bits.Given as goal

abbrev pub invariant-loop-wire : goal.invariant-loop-wire
invariant-loop-wire l = l.count ≡ counted (bits_in (map wire_nets (take l.wire-index l.wires)))
