use Rattle.std.proofs.Common.{◌≡◌, ◌++◌, map, take}
use Rattle.texts.specs.Repeated.{texts}
use Rattle.verilog_tree.specs.declared.tree.Port.{Port}
use Rattle.link_names.proofs.names.add_ports.Given as goal

abbrev pub invariant-loop-port : goal.invariant-loop-port
invariant-loop-port l = texts l.names.items ≡ texts l.initial.names.items ++ map (λ (port : Port). port.name) (take l.port-index l.ports)
