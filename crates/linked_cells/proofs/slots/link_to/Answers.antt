use Rattle.std.proofs.Common.{sym, arith}
use Rattle.linked_cells.proofs.Writes.{place_within, none_there}
use Rattle.linked_cells.proofs.slots.link_to.Goals as goal

pub prove-unreachable-requires : goal.prove-unreachable-requires
prove-unreachable-requires c =
    let low = place_within c.args.cells.now.items c.args.reader c.in-Some.cell.now c.requires (sym (c.in-Some.ensures)) in
    let count = c.count-count.ensures.count in
    let is = c.if-prove.true in omega (arith, low, count, is)

pub unreachable-requires : goal.unreachable-requires
unreachable-requires c = none_there c.args.cells.now.items c.args.reader c.requires (sym c.in-None.ensures)
