use Rattle.netlist_unlink.proofs.Facts.{gate_driven}
use Rattle.netlist_unlink.proofs.cells.gate_item.Goals as goal

pub driven_bit-requires-clause-driven : goal.driven_bit-requires-clause-driven
driven_bit-requires-clause-driven c = gate_driven c.args.linked.now.names c.args.linked.now.arena.lists c.args.cell.0 c.args.gate c.requires.linked.named c.requires.live c.requires.gate
