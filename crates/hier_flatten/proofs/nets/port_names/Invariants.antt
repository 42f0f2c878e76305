use Rattle.std.proofs.Common.{◌≡◌, map, take}
use Rattle.verilog_tree.specs.declared.tree.Port.{Port}
use Rattle.hier_model.specs.WalkNames.{texts}
use Rattle.hier_flatten.proofs.nets.port_names.Given as goal

abbrev pub invariant-loop-port : goal.invariant-loop-port
invariant-loop-port l = texts l.names.items ≡ map (λ (x : Port). x.name) (take l.port-index l.ports)
