use Rattle.std.proofs.Common.{◌-◌, length}
use Rattle.hier_counts.specs.Search.{seen_in}
use Rattle.hier_counts.proofs.Searches.{Searches}
use Rattle.hier_counts.proofs.reach.reached_from.Given as goal

abbrev pub invariant-loop-next : goal.invariant-loop-next
invariant-loop-next l = Searches l.graph l.roots l.next (seen_in l.search)

abbrev pub decreases-loop-next : goal.decreases-loop-next
decreases-loop-next l = length l.graph - l.next
