use Rattle.std.proofs.Common.{◌≡◌, ◌++◌, map, take}
use Rattle.link_model.specs.Nets.{port_nets}
use Rattle.link_names.specs.Views.{net_views}
use Rattle.link_names.proofs.nets.add_ports.Given as goal

abbrev pub invariant-loop-port : goal.invariant-loop-port
invariant-loop-port l = net_views l.nets.items ≡ net_views l.initial.nets.items ++ map port_nets (take l.port-index l.ports)
