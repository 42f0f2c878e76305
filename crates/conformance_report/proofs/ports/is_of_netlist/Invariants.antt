use Rattle.std.proofs.Common.{ℕ, ◌<◌}
use Rattle.conformance_report.specs.Agreement.{IsOwnPort}
use Rattle.conformance_report.proofs.ports.is_of_netlist.Given as goal

abbrev pub invariant-loop-number : goal.invariant-loop-number
invariant-loop-number l = (k : ℕ) → k < l.number → IsOwnPort l.linked k l.port → ⊥
