use Rattle.std.proofs.Common.{◌++◌, length}
use Rattle.std.specs.List.{flat_map}
use Rattle.hier_model.specs.Walks.{left_in}
use Rattle.hier_model.specs.Entries.{level_limit, opened_places}
use Rattle.hier_model.specs.Flat.{place_wires}
use Rattle.hier_flatten.proofs.Walks.{Makes}
use Rattle.hier_flatten.proofs.FlatLaws.{visit_wires}
use Rattle.hier_flatten.proofs.flat.flat_wires.Given as goal

abbrev pub invariant-loop-walk : goal.invariant-loop-walk
invariant-loop-walk l = Makes level_limit l.tables visit_wires (l.top.wires ++ flat_map place_wires (opened_places l.tables l.top)) l.walk l.wires

abbrev pub decreases-loop-walk : goal.decreases-loop-walk
decreases-loop-walk l = length (left_in level_limit l.walk)
