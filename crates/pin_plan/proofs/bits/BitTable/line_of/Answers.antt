use Rattle.std.proofs.Common.{List, position, ◌∙◌, ap}
use Rattle.std.specs.Map.{lookup}
use Rattle.plan_fitting.specs.Pins.{PinSeen, same_bit}
use Rattle.pin_plan.specs.declared.keys.BitKey.{BitKey}
use Rattle.pin_plan.specs.Keys.{same_bit_key}
use Rattle.pin_plan.proofs.bits.BitTable.line_of.Goals as goal

pub returns : goal.returns
returns c =
    c.copied.ensures ∙ c.get.ensures.value ∙ ap (λ (k : BitKey). lookup (same_bit_key k) c.self.inside.places.entries) c.bit_key.ensures
    ∙ c.self.invariant.places c.args.pin
    ∙ ap (λ (list : List PinSeen). position (λ (one : PinSeen). same_bit one.pin c.args.pin) list) c.self.view_is
