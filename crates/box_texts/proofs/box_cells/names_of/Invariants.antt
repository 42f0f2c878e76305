use Rattle.std.proofs.Common.{◌≡◌, take}
use Rattle.texts.specs.Repeated.{texts}
use Rattle.box_texts.specs.Boxes.{names_of}
use Rattle.box_texts.proofs.box_cells.names_of.Given as goal

abbrev pub invariant-loop-port : goal.invariant-loop-port
invariant-loop-port l = texts l.names.items ≡ names_of (take l.port-index l.ports)
