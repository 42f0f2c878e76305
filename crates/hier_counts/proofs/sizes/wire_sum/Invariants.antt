use Rattle.std.proofs.Common.{◌≡◌, map, take}
use Rattle.link_model.specs.Nets.{wire_nets, bits_in}
use Rattle.hier_model.specs.Faults.{net_limit}
use Rattle.hier_counts.specs.Widths.{capped}
use Rattle.hier_counts.proofs.sizes.wire_sum.Given as goal

abbrev pub invariant-loop-wire : goal.invariant-loop-wire
invariant-loop-wire l = l.sum ≡ capped net_limit (bits_in (map wire_nets (take l.wire-index l.wires)))
