use Rattle.netlist_unlink.proofs.Free.{net_fails, net_name_there, net_passes}
use Rattle.netlist_unlink.proofs.prefix.nets_are_free.Goals as goal

pub returns-then-not-is_free_name : goal.returns-then-not-is_free_name
returns-then-not-is_free_name c =
    net_fails c.args.linked.now.names c.args.prefix.now c.args.linked.now.arena.lists.nets c.loop-number.number c.net_name.result c.is_free_name.result
    (net_name_there c.netlist-netlist.result.now c.args.linked.now.arena c.loop-number.number c.net_name.result c.netlist-netlist.ensures.netlist c.net_name.ensures)
    c.is_free_name.ensures c.if-not-is_free_name.true c.loop-number.invariant

pub loop-number-preserved : goal.loop-number-preserved
loop-number-preserved c =
    net_passes c.args.linked.now.names c.args.prefix.now c.args.linked.now.arena.lists.nets c.loop-number.number c.net_name.result c.is_free_name.result
    (net_name_there c.netlist-netlist.result.now c.args.linked.now.arena c.loop-number.number c.net_name.result c.netlist-netlist.ensures.netlist c.net_name.ensures)
    c.is_free_name.ensures c.if-not-is_free_name.false c.loop-number.invariant
