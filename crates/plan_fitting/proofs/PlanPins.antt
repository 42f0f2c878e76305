-- The physical pins of a plan that some text spells.
use Rattle.std.proofs.Common.{◌≡◌, ℕ, ◌≤◌, List, [], ◌∷◌, Bool, true, false, map, length, codes, refl, sym, subst, arith, le-leb}
use Rattle.std.specs.Prelude.{◌&&◌, ◌||◌, nat_le}
use Rattle.std.specs.List.{list_all, AllByRecursion}
use Rattle.std.proofs.lemmas.List.Elements.{recursion_from_All}
use Rattle.list_laws.proofs.Tests.{and_left, and_right, and_true}
use Rattle.list_laws.proofs.Lists.{all_front, all_back}
use Rattle.word_cutter.specs.LinesWords.{is_empty}
use Rattle.bsdl_lexicon.specs.Bytes.{is_digit, is_name_byte}
use Rattle.bsdl_device.specs.Runs.{begins_with_letter, has_single_underscores, is_identifier}
use Rattle.bsdl_device.specs.IsDevice.{IsDevicePin}
use Rattle.bsdl_device.proofs.Identifiers.{digits_are_name_bytes}
use Rattle.plan_texts.specs.declared.plan.Plan.{Plan}
use Rattle.plan_texts.specs.declared.plan.TapLine.{TapLine}
use Rattle.plan_texts.specs.declared.plan.PinLine.{PinLine}
use Rattle.plan_texts.specs.Forms.{is_pin}
use Rattle.plan_texts.specs.Meaning.{plan_of}
use Rattle.plan_texts.specs.Grammar.{PlanSource, IsSource, IsTapLine, IsPinLine, plan_rows, opcode_words, idcode_rows, user_rows, pin_words, tap_words, written_of}
use Rattle.plan_texts.specs.Canonical.{IsPlan}
use Rattle.plan_fitting.specs.Fits.{tap_lines}
use Rattle.plan_fitting.proofs.FilledWords.{IsFilled, AreFilled, kept_lines_filled}

-- Pins.

digit_is_name : (b : ℕ) → is_digit b ≡ true → is_name_byte b ≡ true
digit_is_name b h = grind arith

identifier_bytes : (bytes : List ℕ) → is_identifier bytes ≡ true → list_all is_name_byte bytes ≡ true
identifier_bytes bytes h =
    let three = and_left (begins_with_letter bytes && list_all is_name_byte bytes && has_single_underscores bytes) (nat_le (length bytes) 255) h in
    let two = and_left (begins_with_letter bytes && list_all is_name_byte bytes) (has_single_underscores bytes) three in
    and_right (begins_with_letter bytes) (list_all is_name_byte bytes) two

either_bytes : (bytes : List ℕ) (a b : Bool) → list_all is_digit bytes ≡ a → is_identifier bytes ≡ b → (a || b) ≡ true → list_all is_name_byte bytes ≡ true
either_bytes bytes true b e f h = digits_are_name_bytes bytes e
either_bytes bytes false true e f h = identifier_bytes bytes f
either_bytes bytes false false e f h = absurd (cc)

some_bytes : (bytes : List ℕ) → is_empty bytes ≡ false → 1 ≤ length bytes
some_bytes [] h = absurd (cc)
some_bytes (b ∷ bytes) h = omega arith

device_pin : (pin : List ℕ) → is_pin pin ≡ true → IsFilled pin → IsDevicePin pin
device_pin pin h filled = record {
  short = and_true (nat_le 1 (length pin)) (nat_le (length pin) 32) (le-leb 1 (length pin) (some_bytes pin filled)) (and_left (nat_le (length pin) 32) (list_all is_digit pin || is_identifier pin) h);
  bytes = either_bytes pin (list_all is_digit pin) (is_identifier pin) refl refl (and_right (nat_le (length pin) 32) (list_all is_digit pin || is_identifier pin) h);
}

-- Lines.

pub record HasPins (p : Plan) : Type 0 where
  pub pin_lines : AllByRecursion (λ (line : PinLine). IsDevicePin line.pin) p.pins
  pub taps : AllByRecursion (λ (line : TapLine). IsDevicePin line.pin) (tap_lines p)
  pub linkages : AllByRecursion (λ (line : TapLine). IsDevicePin line.pin) p.linkage

pin_rows : (lines : List PinLine) → AllByRecursion IsPinLine lines → AllByRecursion AreFilled (map pin_words lines) → AllByRecursion (λ (line : PinLine). IsDevicePin line.pin) lines
pin_rows [] forms filled = tt
pin_rows (line ∷ lines) forms filled = (device_pin line.pin forms.0 filled.0.1.1.0, pin_rows lines forms.1 filled.1)

tap_rows : (key : List ℕ) (lines : List TapLine) → AllByRecursion IsTapLine lines → AllByRecursion AreFilled (map (tap_words key) lines)
    → AllByRecursion (λ (line : TapLine). IsDevicePin line.pin) lines
tap_rows key [] forms filled = tt
tap_rows key (line ∷ lines) forms filled = (device_pin line.pin forms.0.pin filled.0.1.1.0, tap_rows key lines forms.1 filled.1)

lines_have_pins : (s : PlanSource) → IsSource s → AllByRecursion AreFilled (plan_rows s) → HasPins (plan_of (written_of s))
lines_have_pins s is filled =
    let taps = filled.1.1.1.1 in
    let codes_on = taps.1.1.1.1.1.1.1.1 in
    let a = all_back AreFilled (map opcode_words s.opcodes) _ codes_on in
    let b = all_back AreFilled (user_rows s.usercode) _ (all_back AreFilled (idcode_rows s.idcode) _ a) in
    let pins = map pin_words s.pins in
    let more = map (tap_words (codes "linkage")) s.linkage in
    record {
      pin_lines = pin_rows s.pins (recursion_from_All IsPinLine s.pins is.pins) (all_front AreFilled pins more b.1);
      taps = (
        device_pin s.tck.pin is.tck.pin taps.0.1.1.0,
        (
          device_pin s.tms.pin is.tms.pin taps.1.0.1.1.0,
          (
            device_pin s.tdi.pin is.tdi.pin taps.1.1.0.1.1.0,
            (
              device_pin s.tdo.pin is.tdo.pin taps.1.1.1.0.1.1.0,
              (device_pin s.trst.pin is.trst.pin taps.1.1.1.1.0.1.1.0, tt),
            ),
          ),
        ),
      );
      linkages = tap_rows (codes "linkage") s.linkage (recursion_from_All IsTapLine s.linkage is.linkage) (all_back AreFilled pins more b.1);
    }

pub plans_have_pins : (p : Plan) → IsPlan p → HasPins p
plans_have_pins p (bytes, spells) =
    let filled = subst (λ rows. AllByRecursion AreFilled rows) spells.lines_are (kept_lines_filled bytes) in
    subst HasPins (sym spells.plan_is) (lines_have_pins spells.source spells.forms filled)
