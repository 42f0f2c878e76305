use Rattle.std.proofs.Common.{◌≡◌}
use Rattle.pin_plan.specs.Bits.{missing_at}
use Rattle.pin_plan.proofs.PortBits.{missing_left}
use Rattle.pin_plan.proofs.missing.missing_in_port.Given as goal

abbrev pub invariant-loop-bit : goal.invariant-loop-bit
invariant-loop-bit l = missing_left l.linked l.bits l.port.0 l.bit ≡ missing_at l.linked l.bits l.port.0
