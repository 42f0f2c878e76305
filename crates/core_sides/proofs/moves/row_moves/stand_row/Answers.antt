use Rattle.std.proofs.Common.{inl, inr}
use Rattle.core_sides.proofs.moves.row_moves.stand_row.Goals as goal

pub returns-in-Driver-clause-lists : goal.returns-in-Driver-clause-lists
returns-in-Driver-clause-lists c = elim c.in-Driver.is [
  | inl e ↦ rw (← c.site_of.ensures, e, ← c.row_net.ensures.net, c.in-Some.is, ← c.level_net-level.ensures) c.feed_driver.ensures.lists
  | inr e ↦ rw (← c.site_of.ensures, e, ← c.row_net.ensures.net, c.in-Some.is, ← c.level_net-level.ensures) c.feed_driver.ensures.lists
]
