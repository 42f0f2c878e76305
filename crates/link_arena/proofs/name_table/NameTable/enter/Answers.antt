use Rattle.std.proofs.Common.{sym}
use Rattle.link_arena.proofs.Numbers.{with_name-known}
use Rattle.link_arena.proofs.name_table.NameTable.enter.Goals as goal

pub returns-in-Some-clause-names : goal.returns-in-Some-clause-names
returns-in-Some-clause-names c = sym (with_name-known c.args.name.now c.args.self.now c.in-Some.number (sym c.in-Some.ensures.number))
