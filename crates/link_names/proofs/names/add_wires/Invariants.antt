use Rattle.std.proofs.Common.{◌≡◌, ◌++◌, map, take}
use Rattle.texts.specs.Repeated.{texts}
use Rattle.verilog_tree.specs.declared.tree.Wire.{Wire}
use Rattle.link_names.proofs.names.add_wires.Given as goal

abbrev pub invariant-loop-wire : goal.invariant-loop-wire
invariant-loop-wire l = texts l.names.items ≡ texts l.initial.names.items ++ map (λ (wire : Wire). wire.name) (take l.wire-index l.wires)
