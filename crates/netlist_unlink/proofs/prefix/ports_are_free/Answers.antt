use Rattle.netlist_unlink.proofs.Facts.{port_name_there}
use Rattle.netlist_unlink.proofs.Free.{port_fails, port_passes}
use Rattle.netlist_unlink.proofs.prefix.ports_are_free.Goals as goal

pub returns-then-not-is_free_name : goal.returns-then-not-is_free_name
returns-then-not-is_free_name c =
    port_fails c.args.linked.now.names c.args.prefix.now c.args.linked.now.arena.lists.ports c.loop-number.number c.port_name.result c.is_free_name.result
    (port_name_there c.netlist-netlist.result.now c.args.linked.now.arena c.loop-number.number c.port_name.result c.netlist-netlist.ensures.netlist c.port_name.ensures)
    c.is_free_name.ensures c.if-not-is_free_name.true c.loop-number.invariant

pub loop-number-preserved : goal.loop-number-preserved
loop-number-preserved c =
    port_passes c.args.linked.now.names c.args.prefix.now c.args.linked.now.arena.lists.ports c.loop-number.number c.port_name.result c.is_free_name.result
    (port_name_there c.netlist-netlist.result.now c.args.linked.now.arena c.loop-number.number c.port_name.result c.netlist-netlist.ensures.netlist c.port_name.ensures)
    c.is_free_name.ensures c.if-not-is_free_name.false c.loop-number.invariant
