use Rattle.std.proofs.Common.{ℕ, List, length}
use Rattle.hier_model.specs.Walks.{left_in}
use Rattle.hier_model.specs.Entries.{level_limit}
use Rattle.hier_flatten.proofs.EnterLaws.{Checking, visit_nets, all_nets}
use Rattle.hier_flatten.proofs.name_checks.check_nets.Given as goal

abbrev pub invariant-loop-walk : goal.invariant-loop-walk
invariant-loop-walk l = (declared : List (List ℕ)) → Checking level_limit l.tables visit_nets (all_nets l.tables l.top) declared l.fn.seen l.walk l.seen

abbrev pub decreases-loop-walk : goal.decreases-loop-walk
decreases-loop-walk l = length (left_in level_limit l.walk)
