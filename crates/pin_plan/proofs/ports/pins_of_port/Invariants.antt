use Rattle.std.proofs.Common.{◌≡◌, ℕ, map}
use Rattle.link_model.specs.Nets.{counted_from}
use Rattle.netlist_link.specs.PinWords.{pin_at}
use Rattle.plan_fitting.specs.Devices.{pin_for}
use Rattle.pin_plan.proofs.ports.pins_of_port.Given as goal

abbrev pub invariant-loop-bit : goal.invariant-loop-bit
invariant-loop-bit l = l.pins ≡ map (λ (bit : ℕ). pin_for l.plan.pins l.bits (pin_at l.port.0 bit)) (counted_from 0 l.bit)
