use Rattle.hier_laws.proofs.FlatLinks.{settled_where_linked}
use Rattle.hier_laws.proofs.links.laws.settled_where_linked.Goals as goal

pub returns : goal.returns
returns c =
    settled_where_linked c.entries_own_bits.ensures c.flat_modules_keep_the_conditions.ensures c.settled_where_solved.ensures c.some_reading.ensures c.link_view_is_formed.ensures
