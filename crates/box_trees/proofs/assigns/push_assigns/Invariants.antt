use Rattle.std.proofs.Common.{◌≡◌, ◌++◌, drop}
use Rattle.box_model.specs.Ports.{bits_of}
use Rattle.box_model.specs.Opened.{link_bits, assigns}
use Rattle.box_trees.specs.Opening.{assigns_of}
use Rattle.box_trees.proofs.assigns.push_assigns.Given as goal

abbrev pub invariant-loop-place : goal.invariant-loop-place
invariant-loop-place l = l.items ++ assigns l.port.dir (drop l.place (bits_of l.hidden l.port.range)) (drop l.place (link_bits l.nets l.port l.operand)) ≡ l.fn.items ++ assigns_of l.nets l.hidden l.port l.operand
