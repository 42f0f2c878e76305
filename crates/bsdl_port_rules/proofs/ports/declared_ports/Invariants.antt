use Rattle.std.proofs.Common.{◌≡◌, map, take}
use Rattle.std.specs.List.{flat_map}
use Rattle.bsdl_device.specs.declared.written.PortDeclaration.{PortDeclaration}
use Rattle.bsdl_device.specs.Ports.{port_declared}
use Rattle.bsdl_port_rules.proofs.ports.declared_ports.Given as goal

abbrev pub invariant-loop-declaration : goal.invariant-loop-declaration
invariant-loop-declaration l = l.ports.items ≡ flat_map (λ (d : PortDeclaration). map (port_declared d) d.names) (take l.declaration-index l.file.declarations)
