use Rattle.std.proofs.Common.{length, map}
use Rattle.hier_model.specs.Visits.{Visit}
use Rattle.hier_model.specs.Walks.{left_in}
use Rattle.hier_model.specs.Entries.{level_limit, visit_entries, entry_item, entries}
use Rattle.hier_flatten.proofs.Walks.{Makes}
use Rattle.hier_flatten.proofs.flat.flat_items.Given as goal

abbrev pub invariant-loop-walk : goal.invariant-loop-walk
invariant-loop-walk l = Makes level_limit l.tables (λ (v : Visit). map entry_item (visit_entries v)) (map entry_item (entries l.tables l.top)) l.walk l.items

abbrev pub decreases-loop-walk : goal.decreases-loop-walk
decreases-loop-walk l = length (left_in level_limit l.walk)
