-- The table of bits finds the first pin line of each, and its pin.
use Rattle.std.proofs.Common.{◌≡◌, ℕ, suc, ◌+◌, Bool, true, false, List, [], ◌∷◌, position, refl, ap, sym, ◌∙◌, arith, Some, None, if◌then◌else◌}
use Rattle.std.specs.Prelude.{slice_get}
use Rattle.std.specs.Map.{lookup}
use Rattle.std.specs.List.{position_from}
use Rattle.std.specs.Option.{option_map_or}
use Rattle.std.proofs.lemmas.Iterator.Adapters.{position_from-zero}
use Rattle.list_laws.proofs.Numbers.{eqb-sym}
use Rattle.netlist_model.specs.declared.PinBit.{PinBit}
use Rattle.plan_texts.specs.declared.plan.PinLine.{PinLine}
use Rattle.plan_fitting.specs.Pins.{PinSeen, same_bit}
use Rattle.plan_fitting.specs.Devices.{pin_for}
use Rattle.pin_plan.specs.declared.keys.BitKey.{BitKey}
use Rattle.pin_plan.specs.Keys.{FindsBits, key_of_bit, keys_of_pins, same_bit_key}
use Rattle.pin_plan.proofs.Lists.{position-map, position-alike}

bit-sym : (pin other : PinBit) → same_bit_key (key_of_bit pin) (key_of_bit other) ≡ same_bit other pin
bit-sym pin other = rw (eqb-sym pin.port.0 other.port.0, eqb-sym pin.bit other.bit) refl

pub finds_bits : (pins : List PinSeen) (keys : List BitKey) (entries : List (BitKey × ℕ)) → keys ≡ keys_of_pins pins
    → ((k : BitKey) → lookup (same_bit_key k) entries ≡ position (same_bit_key k) keys) → FindsBits pins entries
finds_bits pins keys entries is finds = record {
  places = λ pin.
      finds (key_of_bit pin) ∙ ap (position (same_bit_key (key_of_bit pin))) is
      ∙ position-map (same_bit_key (key_of_bit pin)) (λ (one : PinSeen). key_of_bit one.pin) pins
      ∙ position-alike (λ (one : PinSeen). same_bit_key (key_of_bit pin) (key_of_bit one.pin)) (λ (one : PinSeen). same_bit one.pin pin) (λ one. bit-sym pin one.pin) pins;
}

-- The pin of the line at the place.

no_pin : (lines : List PinLine) (seen : List PinSeen) (pin : PinBit) (i : ℕ) → position_from (λ (one : PinSeen). same_bit one.pin pin) i seen ≡ None → pin_for lines seen pin ≡ []
no_pin [] seen pin i none = refl
no_pin (line ∷ lines) [] pin i none = refl
no_pin (line ∷ lines) (one ∷ seen) pin i none = by (same_bit one.pin pin) refl (no_pin lines seen pin (i + 1))
  where
    by : (b : Bool) → same_bit one.pin pin ≡ b → (position_from (λ (o : PinSeen). same_bit o.pin pin) (i + 1) seen ≡ None → pin_for lines seen pin ≡ [])
        → (if same_bit one.pin pin then line.pin else pin_for lines seen pin) ≡ []
    by true e more = let no : Some i ≡ None = rw e at none in absurd (cc)
    by false e more = let rest : position_from (λ (o : PinSeen). same_bit o.pin pin) (i + 1) seen ≡ None = rw e at none in rw e (more rest)

abbrev pin_there : List PinLine → ℕ → List ℕ
pin_there lines k = option_map_or (λ (line : PinLine). line.pin) (slice_get lines k) []

found_pin : (lines : List PinLine) (seen : List PinSeen) (pin : PinBit) (i n : ℕ) → position_from (λ (one : PinSeen). same_bit one.pin pin) i seen ≡ Some n
    → (k : ℕ) × (n ≡ i + k) × (pin_for lines seen pin ≡ pin_there lines k)
found_pin lines [] pin i n some = absurd (cc)
found_pin [] (one ∷ seen) pin i n some = by (same_bit one.pin pin) refl (found_pin [] seen pin (i + 1) n)
  where
    by : (b : Bool) → same_bit one.pin pin ≡ b
        → (position_from (λ (o : PinSeen). same_bit o.pin pin) (i + 1) seen ≡ Some n → (k : ℕ) × (n ≡ i + 1 + k) × (pin_for [] seen pin ≡ pin_there [] k))
        → (k : ℕ) × (n ≡ i + k) × (pin_for [] (one ∷ seen) pin ≡ pin_there [] k)
    by true e more = let here : Some i ≡ Some n = rw e at some in (0, (let same : i ≡ n = cc in omega arith), refl)
    by false e more =
        let rest : position_from (λ (o : PinSeen). same_bit o.pin pin) (i + 1) seen ≡ Some n = rw e at some in
        let found = more rest in
        (suc found.0, (let at = found.1 in omega (arith, at)), refl)
found_pin (line ∷ lines) (one ∷ seen) pin i n some = by (same_bit one.pin pin) refl (found_pin lines seen pin (i + 1) n)
  where
    by : (b : Bool) → same_bit one.pin pin ≡ b
        → (position_from (λ (o : PinSeen). same_bit o.pin pin) (i + 1) seen ≡ Some n → (k : ℕ) × (n ≡ i + 1 + k) × (pin_for lines seen pin ≡ pin_there lines k))
        → (k : ℕ) × (n ≡ i + k) × ((if same_bit one.pin pin then line.pin else pin_for lines seen pin) ≡ pin_there (line ∷ lines) k)
    by true e more = let here : Some i ≡ Some n = rw e at some in (0, (let same : i ≡ n = cc in omega arith), rw e refl)
    by false e more =
        let rest : position_from (λ (o : PinSeen). same_bit o.pin pin) (i + 1) seen ≡ Some n = rw e at some in
        let found = more rest in
        (suc found.0, (let at = found.1 in omega (arith, at)), rw e found.2)

pub pin_of_some : (lines : List PinLine) (seen : List PinSeen) (pin : PinBit) (place : ℕ) → Some place ≡ position (λ (one : PinSeen). same_bit one.pin pin) seen
    → pin_for lines seen pin ≡ option_map_or (λ (line : PinLine). line.pin) (slice_get lines place) []
pin_of_some lines seen pin place some =
    let found = found_pin lines seen pin 0 place (sym (position_from-zero (λ (one : PinSeen). same_bit one.pin pin) seen) ∙ sym some) in
    let same : found.0 ≡ place = let at = found.1 in omega (arith, at) in
    found.2 ∙ ap (pin_there lines) same

pub pin_of_none : (lines : List PinLine) (seen : List PinSeen) (pin : PinBit) → None ≡ position (λ (one : PinSeen). same_bit one.pin pin) seen → pin_for lines seen pin ≡ []
pin_of_none lines seen pin none = no_pin lines seen pin 0 (sym (position_from-zero (λ (one : PinSeen). same_bit one.pin pin) seen) ∙ sym none)
