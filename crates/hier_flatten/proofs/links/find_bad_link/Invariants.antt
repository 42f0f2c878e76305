use Rattle.std.proofs.Common.{length}
use Rattle.hier_model.specs.Visits.{Visit}
use Rattle.hier_model.specs.Walks.{left_in}
use Rattle.hier_model.specs.Entries.{level_limit}
use Rattle.hier_model.specs.Faults.{turn_link, bad_link_in}
use Rattle.hier_flatten.proofs.Walks.{Looks}
use Rattle.hier_flatten.proofs.links.find_bad_link.Given as goal

abbrev pub invariant-loop-walk : goal.invariant-loop-walk
invariant-loop-walk l = Looks level_limit l.tables (λ (v : Visit). turn_link v.at v.within v.turn) (bad_link_in l.tables l.top) l.walk

abbrev pub decreases-loop-walk : goal.decreases-loop-walk
decreases-loop-walk l = length (left_in level_limit l.walk)
