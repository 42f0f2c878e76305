use Rattle.std.proofs.Common.{◌≡◌, ◌++◌, map, take}
use Rattle.verilog_tree.specs.declared.tree.Wire.{Wire}
use Rattle.hier_model.specs.Walks.{texts}
use Rattle.hier_model.specs.Names.{flat_name}
use Rattle.hier_flatten.proofs.flat.push_wires.Given as goal

abbrev pub invariant-loop-wire : goal.invariant-loop-wire
invariant-loop-wire l = l.wires ≡ l.fn.wires ++ map (λ (wire : Wire). record { name = flat_name (texts l.at) wire.name; range = wire.range }) (take l.wire-index l.own)
