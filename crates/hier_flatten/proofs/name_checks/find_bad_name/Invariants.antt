use Rattle.std.proofs.Common.{length}
use Rattle.hier_model.specs.Walks.{left_in}
use Rattle.hier_model.specs.Entries.{level_limit}
use Rattle.hier_model.specs.Faults.{declared_flat}
use Rattle.hier_flatten.proofs.EnterLaws.{Checking, visit_checks, all_checks}
use Rattle.hier_flatten.proofs.name_checks.find_bad_name.Given as goal

abbrev pub invariant-loop-walk : goal.invariant-loop-walk
invariant-loop-walk l = Checking level_limit l.tables visit_checks (all_checks l.tables l.top) (declared_flat l.tables l.top) (declared_flat l.tables l.top) l.walk l.seen

abbrev pub decreases-loop-walk : goal.decreases-loop-walk
decreases-loop-walk l = length (left_in level_limit l.walk)
