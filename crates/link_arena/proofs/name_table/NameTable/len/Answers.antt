use Rattle.link_arena.proofs.Numbers.{once-distinct}
use Rattle.link_arena.proofs.name_table.NameTable.len.Goals as goal

pub returns-clause-once : goal.returns-clause-once
returns-clause-once c = rw (← c.self.view_is) (once-distinct c.self.inside.names.keys c.len.ensures.unique)
