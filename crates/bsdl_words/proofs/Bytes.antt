-- What the kinds of bytes of the lexicon have to do with each other.
use Rattle.std.proofs.Common.{◌≡◌, ℕ, true, false, ◌==◌, arith}
use Rattle.std.proofs.lemmas.Bool.Decides.{nat_tests}
use Rattle.bsdl_lexicon.specs.Bytes.{is_blank, is_letter, is_digit, is_letter_or_digit, is_name_byte, clings, is_exponent_mark, is_sign, is_quotable}

pub letter_not_blank : (b : ℕ) → is_letter b ≡ true → is_blank b ≡ false
letter_not_blank b h = grind (arith, nat_tests)

pub digit_not_blank : (b : ℕ) → is_digit b ≡ true → is_blank b ≡ false
digit_not_blank b h = grind (arith, nat_tests)

pub digit_not_letter : (b : ℕ) → is_digit b ≡ true → is_letter b ≡ false
digit_not_letter b h = grind (arith, nat_tests)

pub clings_not_digit : (b : ℕ) → clings b ≡ false → is_digit b ≡ false
clings_not_digit b h = grind (arith, nat_tests)

pub clings_no_point : (b : ℕ) → clings b ≡ false → (b == 46) ≡ false
clings_no_point b h = grind (arith, nat_tests)

pub clings_not_name : (b : ℕ) → clings b ≡ false → is_name_byte b ≡ false
clings_not_name b h = grind (arith, nat_tests)

pub name_not_digit : (b : ℕ) → is_name_byte b ≡ false → is_digit b ≡ false
name_not_digit b h = grind (arith, nat_tests)

pub name_no_mark : (b : ℕ) → is_name_byte b ≡ false → is_exponent_mark b ≡ false
name_no_mark b h = grind (arith, nat_tests)

pub mark_not_digit : (b : ℕ) → is_exponent_mark b ≡ true → is_digit b ≡ false
mark_not_digit b h = grind (arith, nat_tests)

pub sign_not_digit : (b : ℕ) → is_sign b ≡ true → is_digit b ≡ false
sign_not_digit b h = grind (arith, nat_tests)

pub quotable_no_quote : (b : ℕ) → is_quotable b ≡ true → (b == 34) ≡ false
quotable_no_quote b h = grind (arith, nat_tests)

pub line_end_is_blank : (b : ℕ) → (b == 10) ≡ true → is_blank b ≡ true
line_end_is_blank b h = grind (arith, nat_tests)

pub letter_in_name : (b : ℕ) → is_letter_or_digit b ≡ true → is_name_byte b ≡ true
letter_in_name b h = grind (arith, nat_tests)

pub letter_no_underscore : (b : ℕ) → is_letter_or_digit b ≡ true → (b == 95) ≡ false
letter_no_underscore b h = grind (arith, nat_tests)

pub letter_or_digit : (b : ℕ) → is_name_byte b ≡ true → (b == 95) ≡ false → is_letter_or_digit b ≡ true
letter_or_digit b h other = grind (arith, nat_tests)

pub no_clings : (b : ℕ) → is_name_byte b ≡ false → (b == 46) ≡ false → clings b ≡ false
no_clings b h other = grind (arith, nat_tests)
