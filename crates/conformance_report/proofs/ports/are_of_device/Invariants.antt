use Rattle.std.proofs.Common.{◌≡◌, ℕ, ◌<◌, false}
use Rattle.netlist_link.specs.Linked.{is_straight}
use Rattle.conformance_report.specs.Agreement.{IsOfDevice}
use Rattle.conformance_report.proofs.ports.are_of_device.Given as goal

abbrev pub invariant-loop-number : goal.invariant-loop-number
invariant-loop-number l = (k : ℕ) → k < l.number → is_straight l.linked k ≡ false → IsOfDevice l.linked l.ports k
