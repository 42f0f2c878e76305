use Rattle.std.proofs.Common.{◌≡◌, ◌++◌, take}
use Rattle.std.specs.Prelude.{codes}
use Rattle.bsdl_device.specs.Canonical.{each_after}
use Rattle.bsdl_printing.proofs.head.put_more_pins.Given as goal

abbrev pub invariant-loop-pin : goal.invariant-loop-pin
invariant-loop-pin l = l.text ≡ l.fn.text ++ each_after (codes ",") (λ pin. pin) (take l.pin-index l.pins)
