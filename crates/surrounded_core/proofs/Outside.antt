-- The pins of a run beside a chip's have what is outside the chip's at every moment.
use Rattle.std.proofs.Common.{◌≡◌, ℕ, zero, suc, ◌==◌, ◌≤◌, ◌⊎◌, inl, inr, Bool, true, false, List, length, refl, ap, sym, ◌∙◌, Some, arith, eqb-true, eq-eqb}
use Rattle.list_laws.proofs.Lists.{slice_get_there}
use Rattle.signal_values.specs.declared.PinSig.{PinSig}
use Rattle.signal_values.specs.Values.{bit, pin_of, see}
use Rattle.netlist_model.specs.declared.NetId.{NetId}
use Rattle.netlist_model.specs.declared.Dir.TheVariants.{Input}
use Rattle.netlist_model.specs.Lists.{NetlistView, direction}
use Rattle.netlist_model.specs.Settled.{follows_pin, pin_rule, IsSettled}
use Rattle.netlist_model.specs.Runs.{Moment, PinEvent, pins_after}
use Rattle.bsdl_device.specs.declared.values.Device.{Device}
use Rattle.tap_gates.specs.Home.{IsCourse}
use Rattle.test_logic.specs.declared.Levels.{Levels}
use Rattle.test_logic.specs.declared.TapInput.{TapInput}
use Rattle.test_logic.specs.declared.TapInput.TheVariants.{Tck, Tms, Tdi, Trst}
use Rattle.wrapped_chip.specs.ChipRuns.{ChipMoment, ChipEvent, at_pin, at_tap, IsChipLegal, chip_pins_after, levels_after, level_of}
use Rattle.wrapped_chip.specs.Home.{IsOutside}
use Rattle.wrapped_chip.specs.Realises.{SameOutside, IsSameEvent, SameEvents}
use Rattle.wrapped_chip.specs.Beside.{HasPins, of_bit, of_tap}
use Rattle.surrounded_core.specs.Places.{Places, input_net}
use Rattle.surrounded_core.specs.Surrounds.{SurroundsBy}

-- two tests for equal numbers
same_numbers : (a b : ℕ) → (a ≡ b) ⊎ ((a == b) ≡ false)
same_numbers a b = by_test (a == b) refl
  where
    by_test : (t : Bool) → (a == b) ≡ t → (a ≡ b) ⊎ ((a == b) ≡ false)
    by_test true e = inl (eqb-true a b e)
    by_test false e = inr e

test_true : (a b : ℕ) → a ≡ b → (a == b) ≡ true
test_true a b e = eq-eqb a b e

test_false : (a b : ℕ) → (a ≡ b → ⊥) → (a == b) ≡ false
test_false a b apart = elim (same_numbers a b) [ inl e ↦ absurd (apart e) | inr e ↦ e ]

-- what a net has after an event at it, or at another
after_here : (pins : ℕ → PinSig) (event : PinEvent) (net : ℕ) → net ≡ event.net → pins_after pins event net ≡ event.value
after_here pins event net e = rw (test_true net event.net e) refl

after_elsewhere : (pins : ℕ → PinSig) (event : PinEvent) (net : ℕ) → (net ≡ event.net → ⊥) → pins_after pins event net ≡ pins net
after_elsewhere pins event net apart = rw (test_false net event.net apart) refl

-- Inputs of the test access port.

inputs_differ : (i j : TapInput) → (i ≡ j) ⊎ (i ≡ j → ⊥)
inputs_differ Tck Tck = inl refl
inputs_differ Tck Tms = inr (λ e. cc)
inputs_differ Tck Tdi = inr (λ e. cc)
inputs_differ Tck Trst = inr (λ e. cc)
inputs_differ Tms Tck = inr (λ e. cc)
inputs_differ Tms Tms = inl refl
inputs_differ Tms Tdi = inr (λ e. cc)
inputs_differ Tms Trst = inr (λ e. cc)
inputs_differ Tdi Tck = inr (λ e. cc)
inputs_differ Tdi Tms = inr (λ e. cc)
inputs_differ Tdi Tdi = inl refl
inputs_differ Tdi Trst = inr (λ e. cc)
inputs_differ Trst Tck = inr (λ e. cc)
inputs_differ Trst Tms = inr (λ e. cc)
inputs_differ Trst Tdi = inr (λ e. cc)
inputs_differ Trst Trst = inl refl

level_new : (levels : Levels) (i : TapInput) (level : Bool) → level_of (levels_after levels (at_tap i level)) i ≡ level
level_new levels Tck level = refl
level_new levels Tms level = refl
level_new levels Tdi level = refl
level_new levels Trst level = refl

level_stays : (levels : Levels) (i j : TapInput) (level : Bool) → (i ≡ j → ⊥) → level_of (levels_after levels (at_tap i level)) j ≡ level_of levels j
level_stays levels Tck Tck level apart = absurd (apart refl)
level_stays levels Tck Tms level apart = refl
level_stays levels Tck Tdi level apart = refl
level_stays levels Tck Trst level apart = refl
level_stays levels Tms Tck level apart = refl
level_stays levels Tms Tms level apart = absurd (apart refl)
level_stays levels Tms Tdi level apart = refl
level_stays levels Tms Trst level apart = refl
level_stays levels Tdi Tck level apart = refl
level_stays levels Tdi Tms level apart = refl
level_stays levels Tdi Tdi level apart = absurd (apart refl)
level_stays levels Tdi Trst level apart = refl
level_stays levels Trst Tck level apart = refl
level_stays levels Trst Tms level apart = refl
level_stays levels Trst Tdi level apart = refl
level_stays levels Trst Trst level apart = absurd (apart refl)

-- No two pins share a net.

bits_once : (M N : NetlistView) (has : HasPins M N) (a b : ℕ) → follows_pin (direction N.ports a) ≡ true → follows_pin (direction N.ports b) ≡ true → has.there a ≡ has.there b → a ≡ b
bits_once M N has a b g h e = let same : of_bit a ≡ of_bit b = sym (has.bits_apart a g) ∙ ap has.back e ∙ has.bits_apart b h in cc

bit_no_tap : (M N : NetlistView) (has : HasPins M N) (a : ℕ) (i : TapInput) → follows_pin (direction N.ports a) ≡ true → has.there a ≡ has.tap i → ⊥
bit_no_tap M N has a i g e = let bad : of_bit a ≡ of_tap i = sym (has.bits_apart a g) ∙ ap has.back e ∙ has.taps_apart i in cc

taps_once : (M N : NetlistView) (has : HasPins M N) (i j : TapInput) → has.tap i ≡ has.tap j → i ≡ j
taps_once M N has i j e = let same : of_tap i ≡ of_tap j = sym (has.taps_apart i) ∙ ap has.back e ∙ has.taps_apart j in cc

-- One event.

outside_after : (M N : NetlistView) → HasPins M N → (event : ChipEvent) (other : PinEvent) (w w' : ChipMoment) (pins pins' : ℕ → PinSig) → SameOutside M N w pins
    → IsSameEvent M N event other → IsChipLegal N event → w'.levels ≡ levels_after w.levels event → ((net : ℕ) → w'.pins net ≡ chip_pins_after w.pins event net)
    → ((net : ℕ) → pins' net ≡ pins_after pins other net) → SameOutside M N w' pins'
outside_after M N has (at_pin event) other w w' pins pins' same is legal levels chip_pins there_pins =
    let there : other.net ≡ has.there event.net = has.bits_once event.net other.net is.0 legal.taken in
    record {
      bits = λ net net' b g.
          let at : net' ≡ has.there net = has.bits_once net net' b g in
          elim (same_numbers net event.net) [
            | inl e ↦ there_pins net' ∙ after_here pins other net' (at ∙ ap has.there e ∙ sym there) ∙ is.1 ∙ sym (chip_pins net ∙ after_here w.pins event net e)
            | inr e ↦ (
                let apart : net ≡ event.net → ⊥ = λ f. let bad : true ≡ false = sym (test_true net event.net f) ∙ e in cc in
                there_pins net' ∙ after_elsewhere pins other net' (λ f. apart (bits_once M N has net event.net g legal.taken (sym at ∙ f ∙ there))) ∙ same.bits net net' b g
                ∙ sym (chip_pins net ∙ after_elsewhere w.pins event net apart))
          ];
      tap = λ input net at.
          let here : net ≡ has.tap input = has.taps_once input net at in
          there_pins net ∙ after_elsewhere pins other net (λ f. bit_no_tap M N has event.net input legal.taken (sym there ∙ sym f ∙ here)) ∙ same.tap input net at
          ∙ ap (λ (l : Levels). pin_of (bit (level_of l input))) (sym levels);
    }
outside_after M N has (at_tap i level) other w w' pins pins' same is legal levels chip_pins there_pins =
    let there : other.net ≡ has.tap i = has.taps_once i other.net is.0 in
    record {
      bits = λ net net' b g.
          let at : net' ≡ has.there net = has.bits_once net net' b g in
          there_pins net' ∙ after_elsewhere pins other net' (λ f. bit_no_tap M N has net i g (sym at ∙ f ∙ there)) ∙ same.bits net net' b g ∙ sym (chip_pins net);
      tap = λ input net at.
          let here : net ≡ has.tap input = has.taps_once input net at in
          elim (inputs_differ i input) [
            | inl e ↦ there_pins net ∙ after_here pins other net (here ∙ ap has.tap (sym e) ∙ sym there) ∙ is.1
                ∙ ap (λ (b : Bool). pin_of (bit b)) (sym (ap (λ (l : Levels). level_of l input) levels ∙ ap (λ j. level_of (levels_after w.levels (at_tap i level)) j) (sym e) ∙ level_new w.levels i level))
            | inr apart ↦ there_pins net ∙ after_elsewhere pins other net (λ f. apart (taps_once M N has i input (sym there ∙ sym f ∙ here))) ∙ same.tap input net at
                ∙ ap (λ (b : Bool). pin_of (bit b)) (sym (ap (λ (l : Levels). level_of l input) levels ∙ level_stays w.levels i input level apart))
          ];
    }

-- Each moment.

pub outside_always : (M N : NetlistView) → HasPins M N → (events : List ChipEvent) (outside : ℕ → ChipMoment) (there : List PinEvent) (moment : ℕ → Moment) → IsOutside N events outside
    → SameOutside M N (outside 0) (moment 0).pins → SameEvents M N events there → IsCourse M there moment → (t : ℕ) → t ≤ length events → SameOutside M N (outside t) (moment t).pins
outside_always M N has events outside there moment is same same_events course zero below = same
outside_always M N has events outside there moment is same same_events course (suc t) below =
    let count : length there ≡ length events = same_events.count in
    let event = slice_get_there events t (omega arith) in
    let other = slice_get_there there t (omega arith) in
    outside_after M N has event.0 other.0 (outside t) (outside (suc t)) (moment t).pins (moment (suc t)).pins
    (outside_always M N has events outside there moment is same same_events course t (omega arith))
    (same_events.each t event.0 other.0 event.1 other.1) (is.legal t event.0 event.1) (is.levels t event.0 event.1) (is.pins t event.0 event.1) (course.steps t other.0 other.1).pins

-- What the nets of the test access port carry.

seen_level : (b : Bool) → see (pin_of (bit b)) ≡ bit b
seen_level true = refl
seen_level false = refl

pub level_carried : (M N : NetlistView) (B : Device) (S : Places) {shown : NetId} → SurroundsBy M N B S shown → (w : ChipMoment) (m : Moment) → IsSettled M m.pins m.state m.value
    → SameOutside M N w m.pins → (input : TapInput) → m.value (input_net S input).0 ≡ bit (level_of w.levels input)
level_carried M N B S around w m settled same input =
    let net : ℕ = (input_net S input).0 in
    let side : direction M.ports net ≡ Some Input = around.ports.sides input in
    let rule : pin_rule M m.pins m.value net ≡ see (m.pins net) = rw side refl in
    settled.pins net (rw side refl) ∙ rule ∙ ap see (same.tap input net (around.ports.inputs input)) ∙ seen_level (level_of w.levels input)
