use Rattle.netlist_unlink.proofs.Facts.{assign_driven, assign_reads}
use Rattle.netlist_unlink.proofs.cells.assign.Goals as goal

pub driven_bit-requires-clause-driven : goal.driven_bit-requires-clause-driven
driven_bit-requires-clause-driven c = assign_driven c.args.linked.now.names c.args.linked.now.arena.lists c.args.cell.0 c.requires.linked.named c.requires.live c.requires.name

pub first_input-requires-clause-reads : goal.first_input-requires-clause-reads
first_input-requires-clause-reads c = assign_reads c.args.linked.now.arena.lists c.args.cell.0 c.requires.linked.formed c.requires.live c.requires.gate c.requires.name
