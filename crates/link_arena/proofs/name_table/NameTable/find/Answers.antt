use Rattle.std.proofs.Common.{arith}
use Rattle.link_arena.proofs.Numbers.{number_of-at}
use Rattle.link_arena.proofs.name_table.NameTable.find.Goals as goal

pub returns-clause-stands : goal.returns-clause-stands
returns-clause-stands c =
    let view = c.self.view_is in
    number_of-at c.args.name.now c.args.self.now c.in_ok-number.number (grind (arith, view, c.get_index_of.ensures.index, c.in_ok-number.ensures.index))
