use Rattle.std.proofs.Common.{◌≡◌, drop}
use Rattle.texts.specs.First.{first_in}
use Rattle.hier_model.specs.Faults.{missing_cell}
use Rattle.hier_counts.proofs.missing.missing_in.Given as goal

abbrev pub invariant-loop-item : goal.invariant-loop-item
invariant-loop-item l = first_in (missing_cell l.cells l.table) (drop l.item-index l.items) ≡ first_in (missing_cell l.cells l.table) l.items
