-- own: what the table of bits is searched for.
use Rattle.std.specs.Prelude.{◌≡◌, ℕ, ◌==◌, ◌&&◌, Bool, List, map, position}
use Rattle.std.specs.Map.{lookup}
use Rattle.netlist_model.specs.declared.PinBit.{PinBit}
use Rattle.plan_fitting.specs.Pins.{PinSeen, same_bit}
use Rattle.pin_plan.specs.declared.keys.BitKey.{BitKey}

abbrev pub key_of_bit : PinBit → BitKey
key_of_bit pin = record { port = pin.port.0; bit = pin.bit }

abbrev pub keys_of_pins : List PinSeen → List BitKey
keys_of_pins pins = map (λ (one : PinSeen). key_of_bit one.pin) pins

abbrev pub same_bit_key : BitKey → BitKey → Bool
same_bit_key a b = a.port == b.port && a.bit == b.bit

-- the place of the first pin line of each bit stands under the bit
pub record FindsBits (pins : List PinSeen) (entries : List (BitKey × ℕ)) : Type 0 where
  pub places : (pin : PinBit) → lookup (same_bit_key (key_of_bit pin)) entries ≡ position (λ (one : PinSeen). same_bit one.pin pin) pins
