use Rattle.std.proofs.Common.{◌≡◌, ◌≢◌, ℕ, ◌<◌, Some}
use Rattle.std.specs.List.{slice_get}
use Rattle.bsdl_device.specs.declared.values.DevPort.{DevPort}
use Rattle.bsdl_device.specs.declared.values.PortMode.TheVariants.{Linkage}
use Rattle.conformance_report.specs.Agreement.{IsOfNetlist}
use Rattle.conformance_report.proofs.ports.are_of_netlist.Given as goal

abbrev pub invariant-loop-place : goal.invariant-loop-place
invariant-loop-place l = (k : ℕ) (found : DevPort) → k < l.place → slice_get l.ports k ≡ Some found → found.mode ≢ Linkage → IsOfNetlist l.linked found
