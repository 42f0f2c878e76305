use Rattle.netlist_unlink.proofs.Facts.{instance_named, instance_ports}
use Rattle.netlist_unlink.proofs.cells.instance.Goals as goal

pub instance_name-requires-clause-named : goal.instance_name-requires-clause-named
instance_name-requires-clause-named c =
    instance_named c.args.linked.now.names c.args.linked.now.arena.lists c.args.cell.0 c.args.kind c.args.library.now c.requires.linked.named c.requires.live c.requires.kind c.requires.library

pub cell_links-requires-clause-ports : goal.cell_links-requires-clause-ports
cell_links-requires-clause-ports c =
    instance_ports c.args.linked.now.arena.lists c.args.cell.0 c.args.kind c.args.library.now c.requires.linked.named.library c.requires.linked.formed c.requires.live c.requires.kind c.requires.library
