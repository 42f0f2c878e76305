use Rattle.link_arena.proofs.Numbers.{number_of-at}
use Rattle.link_arena.proofs.name_table.NameTable.find_near.Goals as goal

pub returns-then-has_at-clause-stands : goal.returns-then-has_at-clause-stands
returns-then-has_at-clause-stands c = number_of-at c.args.name.now c.args.self.now c.args.hint (c.has_at.ensures.0 (c.if-has_at.true))

pub returns-then-has_at-2-clause-stands : goal.returns-then-has_at-2-clause-stands
returns-then-has_at-2-clause-stands c = number_of-at c.args.name.now c.args.self.now c.saturating_add-next.result (c.has_at-2.ensures.0 (c.if-has_at-2.true))
