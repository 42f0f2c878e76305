use Rattle.std.proofs.Common.{◌++◌}
use Rattle.netlist_unlink.specs.Trees.{added_from}
use Rattle.netlist_unlink.proofs.AddedLaws.{added_more}
use Rattle.netlist_unlink.proofs.wires.add_wires.Goals as goal

pub loop-number-preserved : goal.loop-number-preserved
loop-number-preserved c =
    added_more c.args.prefix.now c.args.linked.now.arena.lists.nets c.loop-number.number c.loop-number.wires c.add_wire.new.wires
    (c.args.wires.now ++ added_from c.args.prefix.now 0 c.args.linked.now.arena.lists.nets) c.in_ok-add_wire.ensures c.loop-number.invariant
