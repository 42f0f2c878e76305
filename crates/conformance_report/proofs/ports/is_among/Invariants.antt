use Rattle.std.proofs.Common.{◌≡◌, ℕ, ◌<◌, Some}
use Rattle.std.specs.List.{slice_get}
use Rattle.bsdl_device.specs.declared.values.DevPort.{DevPort}
use Rattle.conformance_report.specs.Agreement.{IsSamePort}
use Rattle.conformance_report.proofs.ports.is_among.Given as goal

abbrev pub invariant-loop-other : goal.invariant-loop-other
invariant-loop-other l = (k : ℕ) (found : DevPort) → k < l.other-index → slice_get l.ports k ≡ Some found → IsSamePort l.linked l.port.0 found → ⊥
