use Rattle.std.proofs.Common.{List, position, ◌∙◌, ap}
use Rattle.pin_plan.specs.declared.keys.BitKey.{BitKey}
use Rattle.pin_plan.specs.Keys.{same_bit_key}
use Rattle.pin_plan.proofs.BitPlaces.{finds_bits}
use Rattle.pin_plan.proofs.bits.BitTable.of.Goals as goal

pub invariant_of-result : goal.invariant_of-result
invariant_of-result c =
    finds_bits c.args.pins.now c.in_ok-keys.keys.items c.in_ok-places.places.entries c.in_ok-keys.ensures
    (λ k. c.in_ok-places.ensures k ∙ ap (λ (keys : List BitKey). position (same_bit_key k) keys) c.deref.ensures.value)
