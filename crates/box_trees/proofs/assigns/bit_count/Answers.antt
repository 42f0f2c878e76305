use Rattle.std.proofs.Common.{◌∙◌, sym}
use Rattle.box_trees.proofs.Assigned.{length-spread_some, length-spread_none}
use Rattle.box_trees.proofs.assigns.bit_count.Goals as goal

pub returns-in-Some : goal.returns-in-Some
returns-in-Some c = c.width_of.ensures.value ∙ sym (length-spread_some c.args.nets.now c.args.port.now c.args.operand.now c.in-Some.range (sym c.in-Some.ensures))

pub returns-in-None : goal.returns-in-None
returns-in-None c = sym (length-spread_none c.args.nets.now c.args.port.now c.args.operand.now (sym c.in-None.ensures))
