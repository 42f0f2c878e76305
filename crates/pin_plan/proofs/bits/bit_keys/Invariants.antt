use Rattle.std.proofs.Common.{◌≡◌, take}
use Rattle.pin_plan.specs.Keys.{keys_of_pins}
use Rattle.pin_plan.proofs.bits.bit_keys.Given as goal

abbrev pub invariant-loop-one : goal.invariant-loop-one
invariant-loop-one l = l.keys.items ≡ keys_of_pins (take l.one-index l.pins)
