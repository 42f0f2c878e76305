-- The physical pins of a plan's bits: each bit has its line's, and no two bits have the same.
use Rattle.std.proofs.Common.{◌≡◌, ℕ, Bool, true, false, cond, ◌==◌, List, [], ◌∷◌, ◌++◌, map, length, refl, ◌∙◌, arith, eqb-true, eq-eqb}
use Rattle.std.specs.Prelude.{◌||◌}
use Rattle.std.specs.List.{list_any, list_all, AllByRecursion}
use Rattle.list_laws.proofs.Tests.{and_left, and_right, and_true, or_first, or_second, neither}
use Rattle.list_laws.proofs.Lists.{each_fails}
use Rattle.bsdl_lexicon.specs.Names.{is_same_name}
use Rattle.bsdl_device.specs.Checks.{any_pair, is_repeated}
use Rattle.bsdl_device.specs.IsDevice.{IsDevicePin}
use Rattle.netlist_model.specs.declared.PinBit.{PinBit}
use Rattle.bsdl_lexicon.proofs.SameNames.{same_turned}
use Rattle.plan_texts.specs.declared.plan.Plan.{Plan}
use Rattle.plan_texts.specs.declared.plan.TapLine.{TapLine}
use Rattle.plan_texts.specs.declared.plan.PinLine.{PinLine}
use Rattle.plan_fitting.specs.Pins.{PinSeen, same_bit}
use Rattle.plan_fitting.specs.Names.{NamedBit}
use Rattle.plan_fitting.specs.Fits.{has_line, tap_lines}
use Rattle.plan_fitting.specs.Devices.{pin_for}
use Rattle.plan_fitting.proofs.Tests.{true_not_false}
use Rattle.plan_fitting.proofs.Pairs.{any_across, pair_split, pair_joined, pair_through, across_same, across_turned, across_front, across_back, across_joined}
use Rattle.plan_fitting.proofs.PortBits.{same_named}

pub same_bits_join : (a x y : PinBit) → same_bit a x ≡ true → same_bit a y ≡ true → same_bit x y ≡ true
same_bits_join a x y h k =
    let p : a.port.0 ≡ x.port.0 = eqb-true a.port.0 x.port.0 (and_left (a.port.0 == x.port.0) (a.bit == x.bit) h) in
    let q : a.port.0 ≡ y.port.0 = eqb-true a.port.0 y.port.0 (and_left (a.port.0 == y.port.0) (a.bit == y.bit) k) in
    let r : a.bit ≡ x.bit = eqb-true a.bit x.bit (and_right (a.port.0 == x.port.0) (a.bit == x.bit) h) in
    let s : a.bit ≡ y.bit = eqb-true a.bit y.bit (and_right (a.port.0 == y.port.0) (a.bit == y.bit) k) in
    and_true (x.port.0 == y.port.0) (x.bit == y.bit) (eq-eqb x.port.0 y.port.0 (omega arith)) (eq-eqb x.bit y.bit (omega arith))

-- what holds of each line's pin holds of a bit's
pin_among : (Q : List ℕ → Type 0) (lines : List PinLine) (seen : List PinSeen) (x : PinBit) → length seen ≡ length lines
    → AllByRecursion (λ (line : PinLine). Q line.pin) lines → has_line seen x ≡ true → Q (pin_for lines seen x)
pin_among Q [] [] x many all h = absurd (cc)
pin_among Q [] (one ∷ seen) x many all h = absurd (omega arith)
pin_among Q (line ∷ lines) [] x many all h = absurd (omega arith)
pin_among Q (line ∷ lines) (one ∷ seen) x many all h = by (same_bit one.pin x) h (λ k. pin_among Q lines seen x (omega arith) all.1 k)
  where
    by : (b : Bool) → (b || has_line seen x) ≡ true → (has_line seen x ≡ true → Q (pin_for lines seen x)) → Q (cond b line.pin (pin_for lines seen x))
    by true k more = all.0
    by false k more = more k

pub pins_are_right : (lines : List PinLine) (seen : List PinSeen) (x : PinBit) → length seen ≡ length lines
    → AllByRecursion (λ (line : PinLine). IsDevicePin line.pin) lines → has_line seen x ≡ true → IsDevicePin (pin_for lines seen x)
pins_are_right lines seen x many all h = pin_among IsDevicePin lines seen x many all h

abbrev line_pins : List PinLine → List (List ℕ)
line_pins lines = map (λ (line : PinLine). line.pin) lines

unmapped : (P : List ℕ → Type 0) (lines : List PinLine) → AllByRecursion P (line_pins lines) → AllByRecursion (λ (line : PinLine). P line.pin) lines
unmapped P [] all = tt
unmapped P (line ∷ lines) all = (all.0, unmapped P lines all.1)

pin_not : (pin : List ℕ) (lines : List PinLine) (seen : List PinSeen) (x : PinBit) → length seen ≡ length lines → list_any (is_same_name pin) (line_pins lines) ≡ false
    → has_line seen x ≡ true → is_same_name pin (pin_for lines seen x) ≡ false
pin_not pin lines seen x many h there =
    pin_among (λ (q : List ℕ). is_same_name pin q ≡ false) lines seen x many (unmapped (λ (q : List ℕ). is_same_name pin q ≡ false) lines (each_fails (is_same_name pin) (line_pins lines) h)) there

pins_differ : (lines : List PinLine) (seen : List PinSeen) (x y : PinBit) → length seen ≡ length lines → is_repeated (line_pins lines) ≡ false
    → has_line seen x ≡ true → has_line seen y ≡ true → same_bit x y ≡ false → is_same_name (pin_for lines seen x) (pin_for lines seen y) ≡ false
pins_differ [] [] x y many once hx hy differ = absurd (cc)
pins_differ [] (one ∷ seen) x y many once hx hy differ = absurd (omega arith)
pins_differ (line ∷ lines) [] x y many once hx hy differ = absurd (omega arith)
pins_differ (line ∷ lines) (one ∷ seen) x y many once hx hy differ =
    by (same_bit one.pin x) (same_bit one.pin y) refl refl hx hy
    (λ a b. pins_differ lines seen x y (omega arith) (or_second (list_any (is_same_name line.pin) (line_pins lines)) (is_repeated (line_pins lines)) once) a b differ)
  where
    here : (z : PinBit) → has_line seen z ≡ true → is_same_name line.pin (pin_for lines seen z) ≡ false
    here z there = pin_not line.pin lines seen z (omega arith) (or_first (list_any (is_same_name line.pin) (line_pins lines)) (is_repeated (line_pins lines)) once) there

    by : (a b : Bool) → same_bit one.pin x ≡ a → same_bit one.pin y ≡ b → (a || has_line seen x) ≡ true → (b || has_line seen y) ≡ true
        → (has_line seen x ≡ true → has_line seen y ≡ true → is_same_name (pin_for lines seen x) (pin_for lines seen y) ≡ false)
        → is_same_name (cond a line.pin (pin_for lines seen x)) (cond b line.pin (pin_for lines seen y)) ≡ false
    by true true e f k m more = absurd (true_not_false (same_bit x y) (same_bits_join one.pin x y e f) differ)
    by true false e f k m more = here y m
    by false true e f k m more = same_turned (pin_for lines seen x) line.pin ∙ here x k
    by false false e f k m more = more k m

-- the pins of bits, in their order
abbrev pub bit_pins : Plan → List PinSeen → List NamedBit → List (List ℕ)
bit_pins p seen bits = map (λ (b : NamedBit). pin_for p.pins seen b.pin) bits

bits_not : (p : Plan) (seen : List PinSeen) (others : List (List ℕ)) (bits : List NamedBit) → length seen ≡ length p.pins → any_across is_same_name (line_pins p.pins) others ≡ false
    → list_all (λ (b : NamedBit). has_line seen b.pin) bits ≡ true → any_across is_same_name (bit_pins p seen bits) others ≡ false
bits_not p seen others [] many h all = refl
bits_not p seen others (b ∷ bits) many h all =
    neither (list_any (is_same_name (pin_for p.pins seen b.pin)) others) (any_across is_same_name (bit_pins p seen bits) others)
    (pin_among (λ (q : List ℕ). list_any (is_same_name q) others ≡ false) p.pins seen b.pin many
    (unmapped (λ (q : List ℕ). list_any (is_same_name q) others ≡ false) p.pins (each_fails (λ (q : List ℕ). list_any (is_same_name q) others) (line_pins p.pins) h))
    (and_left (has_line seen b.pin) (list_all (λ (x : NamedBit). has_line seen x.pin) bits) all))
    (bits_not p seen others bits many h (and_right (has_line seen b.pin) (list_all (λ (x : NamedBit). has_line seen x.pin) bits) all))

pub pins_once : (p : Plan) (seen : List PinSeen) (bits : List NamedBit) → length seen ≡ length p.pins
    → is_repeated (map (λ (line : TapLine). line.pin) (tap_lines p) ++ (line_pins p.pins ++ map (λ (line : TapLine). line.pin) p.linkage)) ≡ false
    → list_all (λ (b : NamedBit). has_line seen b.pin) bits ≡ true → any_pair same_named bits ≡ false
    → is_repeated (bit_pins p seen bits ++ (map (λ (line : TapLine). line.pin) (tap_lines p) ++ map (λ (line : TapLine). line.pin) p.linkage)) ≡ false
pins_once p seen bits many once lined apart =
    let taps = map (λ (line : TapLine). line.pin) (tap_lines p) in
    let own = line_pins p.pins in
    let more = map (λ (line : TapLine). line.pin) p.linkage in
    let whole = pair_split is_same_name taps (own ++ more) once in
    let rest = pair_split is_same_name own more whole.back in
    let turned : any_across is_same_name own taps ≡ false =
    across_turned is_same_name own taps (across_same (λ y x. is_same_name x y) is_same_name (λ y x. same_turned x y) taps own ∙ across_front is_same_name taps own more whole.across) in
    pair_joined is_same_name (bit_pins p seen bits) (taps ++ more) (record {
      front = pair_through same_named is_same_name (λ (b : NamedBit). has_line seen b.pin) (λ (b : NamedBit). pin_for p.pins seen b.pin)
          (λ x y a b differ. pins_differ p.pins seen x.pin y.pin many rest.front a b differ) bits lined apart;
      back = pair_joined is_same_name taps more (record { front = whole.front; back = rest.back; across = across_back is_same_name taps own more whole.across });
      across = bits_not p seen (taps ++ more) bits many (across_joined is_same_name own taps more turned rest.across) lined;
    })
