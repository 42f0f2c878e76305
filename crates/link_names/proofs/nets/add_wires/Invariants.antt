use Rattle.std.proofs.Common.{◌≡◌, ◌++◌, map, take}
use Rattle.link_model.specs.Nets.{wire_nets}
use Rattle.link_names.specs.Views.{net_views}
use Rattle.link_names.proofs.nets.add_wires.Given as goal

abbrev pub invariant-loop-wire : goal.invariant-loop-wire
invariant-loop-wire l = net_views l.nets.items ≡ net_views l.initial.nets.items ++ map wire_nets (take l.wire-index l.wires)
