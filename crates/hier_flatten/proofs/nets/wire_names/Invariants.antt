use Rattle.std.proofs.Common.{◌≡◌, map, take}
use Rattle.verilog_tree.specs.declared.tree.Wire.{Wire}
use Rattle.hier_model.specs.WalkNames.{texts}
use Rattle.hier_flatten.proofs.nets.wire_names.Given as goal

abbrev pub invariant-loop-wire : goal.invariant-loop-wire
invariant-loop-wire l = texts l.names.items ≡ map (λ (x : Wire). x.name) (take l.wire-index l.wires)
