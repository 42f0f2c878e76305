-- Identifiers of the words and of the strings are one.
use Rattle.std.proofs.Common.{◌≡◌, ℕ, ◌<◌, List, [], ◌∷◌, Bool, true, false, length, refl, ap, arith, le-leb}
use Rattle.std.specs.Prelude.{◌==◌, ◌&&◌, not, nat_le, IsTrue}
use Rattle.std.specs.List.{list_all, AllByRecursion}
use Rattle.list_laws.proofs.Tests.{and_true}
use Rattle.bsdl_lexicon.specs.Bytes.{is_letter, is_name_byte, is_letter_or_digit}
use Rattle.bsdl_lexicon.specs.Reserved.{is_reserved}
use Rattle.bsdl_lexicon.specs.Pieces.{IsIdentifier, HasSingleUnderscores}
use Rattle.bsdl_device.specs.Runs.{is_identifier, has_single_underscores}
use Rattle.bsdl_device.proofs.Good.{is_name}

letter_is_name : (b : ℕ) → is_letter b ≡ true → is_name_byte b ≡ true
letter_is_name b h = grind arith

letter_is_no_underscore : (b : ℕ) → is_letter b ≡ true → (b == 95) ≡ false
letter_is_no_underscore b h = grind arith

other_is_no_underscore : (b : ℕ) → is_letter_or_digit b ≡ true → (b == 95) ≡ false
other_is_no_underscore b h = grind arith

all_bytes : (bytes : List ℕ) → AllByRecursion (λ c. IsTrue (is_name_byte c)) bytes → list_all is_name_byte bytes ≡ true
all_bytes [] all = refl
all_bytes (b ∷ bytes) all = and_true (is_name_byte b) (list_all is_name_byte bytes) all.0 (all_bytes bytes all.1)

single_test : (b : ℕ) (bytes : List ℕ) → HasSingleUnderscores (b ∷ bytes) → has_single_underscores (b ∷ bytes) ≡ true
single_test b [] h = by (b == 95) h.0
  where
    by : (x : Bool) → (IsTrue x → ⊥) → not x ≡ true
    by true k = absurd (k refl)
    by false k = refl
single_test b (c ∷ bytes) h = and_true (not (b == 95 && c == 95)) (has_single_underscores (c ∷ bytes)) (by (b == 95) h.0) (single_test c bytes h.1)
  where
    by : (x : Bool) → (IsTrue x → IsTrue (is_letter_or_digit c)) → not (x && c == 95) ≡ true
    by true k = ap not (other_is_no_underscore c (k refl))
    by false k = refl

pub identifier_test : (name : List ℕ) → IsIdentifier name → is_identifier name ≡ true
identifier_test [] is = absurd is
identifier_test (b ∷ bytes) is =
    let short : length bytes < 255 = is.3 in
    and_true (is_letter b && list_all is_name_byte (b ∷ bytes) && has_single_underscores (b ∷ bytes)) (nat_le (length (b ∷ bytes)) 255)
    (and_true (is_letter b && list_all is_name_byte (b ∷ bytes)) (has_single_underscores (b ∷ bytes))
    (and_true (is_letter b) (list_all is_name_byte (b ∷ bytes)) is.0 (and_true (is_name_byte b) (list_all is_name_byte bytes) (letter_is_name b is.0) (all_bytes bytes is.1)))
    (single_test b bytes (λ under. (let no_under = letter_is_no_underscore b is.0 in absurd (cc)), is.2)))
    (le-leb (length (b ∷ bytes)) 255 (omega arith))

pub name_test : (name : List ℕ) → IsIdentifier name × (is_reserved name ≡ false) → is_name name ≡ true
name_test name h = and_true (is_identifier name) (not (is_reserved name)) (identifier_test name h.0) (ap not h.1)
