use Rattle.std.proofs.Common.{◌≡◌, ℕ, List, take}
use Rattle.hier_model.specs.Faults.{cell_limit}
use Rattle.hier_counts.specs.Widths.{capped, named_bits, width_under}
use Rattle.hier_counts.proofs.widths.PortWidths.of.Given as goal

abbrev pub invariant-loop-port : goal.invariant-loop-port
invariant-loop-port l = (name : List ℕ) → width_under l.widths.entries name ≡ capped cell_limit (named_bits name (take l.port-index l.ports))
