use Rattle.std.proofs.Common.{◌≡◌, ◌++◌, map, take}
use Rattle.verilog_tree.specs.declared.tree.Port.{Port}
use Rattle.hier_model.specs.Walks.{texts}
use Rattle.hier_model.specs.Names.{flat_name}
use Rattle.hier_flatten.proofs.flat.push_ports.Given as goal

abbrev pub invariant-loop-port : goal.invariant-loop-port
invariant-loop-port l = l.wires ≡ l.fn.wires ++ map (λ (port : Port). record { name = flat_name (texts l.at) port.name; range = port.range }) (take l.port-index l.ports)
