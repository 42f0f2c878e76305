use Rattle.std.proofs.Common.{◌≡◌, drop}
use Rattle.texts.specs.First.{first_in}
use Rattle.verilog_tree.specs.declared.tree.Module.{Module}
use Rattle.hier_model.specs.Faults.{missing_cell}
use Rattle.hier_counts.specs.Marked.{first_marked}
use Rattle.hier_counts.proofs.missing.find_missing.Given as goal

abbrev pub invariant-loop-place : goal.invariant-loop-place
invariant-loop-place l =
    first_marked (λ (m : Module). first_in (missing_cell l.cells l.table) m.items) (drop l.place l.reached) (drop l.place l.table) ≡ first_marked (λ (m : Module). first_in (missing_cell l.cells l.table) m.items) l.reached l.table
