use Rattle.std.proofs.Common.{◌≡◌, map, take}
use Rattle.link_model.specs.Nets.{port_nets, bits_in}
use Rattle.hier_model.specs.Faults.{net_limit}
use Rattle.hier_counts.specs.Widths.{capped}
use Rattle.hier_counts.proofs.sizes.port_sum.Given as goal

abbrev pub invariant-loop-port : goal.invariant-loop-port
invariant-loop-port l = l.sum ≡ capped net_limit (bits_in (map port_nets (take l.port-index l.ports)))
