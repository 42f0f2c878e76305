use Rattle.std.proofs.Common.{◌≡◌, map, take}
use Rattle.link_model.specs.Nets.{port_nets, bits_in}
use Rattle.link_model.specs.Faults.{counted}
use Rattle.box_trees.proofs.limits.count_port_bits.Given as goal

abbrev pub invariant-loop-port : goal.invariant-loop-port
invariant-loop-port l = l.count ≡ counted (bits_in (map port_nets (take l.port-index l.ports)))
