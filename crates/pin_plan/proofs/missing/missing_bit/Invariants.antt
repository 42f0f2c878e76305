use Rattle.std.proofs.Common.{◌≡◌}
use Rattle.list_laws.specs.Options.{first_in}
use Rattle.plan_fitting.specs.Fits.{bit_fault}
use Rattle.pin_plan.specs.Bits.{missing_among}
use Rattle.pin_plan.proofs.PortBits.{ports_left}
use Rattle.pin_plan.proofs.missing.missing_bit.Given as goal

abbrev pub invariant-loop-number : goal.invariant-loop-number
invariant-loop-number l = first_in (bit_fault l.bits) (ports_left l.linked l.number) ≡ missing_among l.linked l.bits
