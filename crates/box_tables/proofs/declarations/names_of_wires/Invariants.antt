use Rattle.std.proofs.Common.{◌≡◌, take}
use Rattle.texts.specs.Repeated.{texts}
use Rattle.box_tables.specs.Nets.{wire_names}
use Rattle.box_tables.proofs.declarations.names_of_wires.Given as goal

abbrev pub invariant-loop-wire : goal.invariant-loop-wire
invariant-loop-wire l = texts l.names.items ≡ wire_names (take l.wire-index l.wires)
