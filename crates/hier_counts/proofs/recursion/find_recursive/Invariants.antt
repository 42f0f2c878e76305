use Rattle.std.proofs.Common.{◌≡◌, drop, Some, None, if◌then◌else◌}
use Rattle.verilog_tree.specs.declared.tree.Module.{Module}
use Rattle.hier_model.specs.Faults.{holds_itself}
use Rattle.hier_counts.specs.Marked.{first_marked}
use Rattle.hier_counts.proofs.recursion.find_recursive.Given as goal

abbrev pub invariant-loop-place : goal.invariant-loop-place
invariant-loop-place l =
    first_marked (λ (m : Module). if holds_itself l.table m then Some m.name else None) (drop l.place l.marks) (drop l.place l.table) ≡ first_marked (λ (m : Module). if holds_itself l.table m then Some m.name else None) l.marks l.table
