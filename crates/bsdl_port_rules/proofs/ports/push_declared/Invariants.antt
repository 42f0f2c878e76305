use Rattle.std.proofs.Common.{◌≡◌, ◌++◌, map, take}
use Rattle.bsdl_device.specs.Ports.{port_declared}
use Rattle.bsdl_port_rules.proofs.ports.push_declared.Given as goal

abbrev pub invariant-loop-name : goal.invariant-loop-name
invariant-loop-name l = l.ports.items ≡ l.initial.ports.items ++ map (port_declared l.declaration) (take l.name-index l.declaration.names)
