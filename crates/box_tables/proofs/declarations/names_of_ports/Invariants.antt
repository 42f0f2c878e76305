use Rattle.std.proofs.Common.{◌≡◌, take}
use Rattle.texts.specs.Repeated.{texts}
use Rattle.box_tables.specs.Nets.{port_names}
use Rattle.box_tables.proofs.declarations.names_of_ports.Given as goal

abbrev pub invariant-loop-port : goal.invariant-loop-port
invariant-loop-port l = texts l.names.items ≡ port_names (take l.port-index l.ports)
