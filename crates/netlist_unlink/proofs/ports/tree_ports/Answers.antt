use Rattle.netlist_unlink.specs.Trees.{port_of}
use Rattle.netlist_unlink.proofs.Lists.{mapped_more}
use Rattle.netlist_unlink.proofs.ports.tree_ports.Goals as goal

pub loop-number-preserved : goal.loop-number-preserved
loop-number-preserved c =
    mapped_more (port_of c.args.linked.now.names) c.args.linked.now.arena.lists.ports c.loop-number.number c.in_ok-tree_port.field-0 c.loop-number.ports c.push.new.self
    c.in_ok-tree_port.ensures c.loop-number.invariant c.in_ok-push.ensures.ok
