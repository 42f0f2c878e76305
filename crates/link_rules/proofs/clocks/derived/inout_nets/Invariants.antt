use Rattle.std.proofs.Common.{◌≡◌, map, take}
use Rattle.link_rules.specs.Cones.{is_inout_net}
use Rattle.link_rules.proofs.clocks.derived.inout_nets.Given as goal

abbrev pub invariant-loop-net : goal.invariant-loop-net
invariant-loop-net l = l.marks.items ≡ map is_inout_net (take l.net-index l.nets)
