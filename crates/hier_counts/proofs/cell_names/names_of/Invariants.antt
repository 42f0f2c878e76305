use Rattle.std.proofs.Common.{◌≡◌, take}
use Rattle.hier_model.specs.WalkNames.{texts}
use Rattle.hier_counts.specs.Cells.{cell_names}
use Rattle.hier_counts.proofs.cell_names.names_of.Given as goal

abbrev pub invariant-loop-number : goal.invariant-loop-number
invariant-loop-number l = texts l.names.items ≡ cell_names (take l.number l.library)
