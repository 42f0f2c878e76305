-- What the kinds of bytes of the lexicon have to do with each other.
use Rattle.std.proofs.Common.{◌≡◌, ℕ, true, false, ◌==◌, arith}
use Rattle.std.proofs.lemmas.Bool.Decides.{nat_tests}
use Rattle.verilog_lexicon.specs.Bytes.{is_blank, is_letter, is_digit, is_name_byte, clings, is_escaped_byte}

pub letter_not_blank : (b : ℕ) → is_letter b ≡ true → is_blank b ≡ false
letter_not_blank b h = grind (arith, nat_tests)

pub digit_not_blank : (b : ℕ) → is_digit b ≡ true → is_blank b ≡ false
digit_not_blank b h = grind (arith, nat_tests)

pub digit_not_letter : (b : ℕ) → is_digit b ≡ true → is_letter b ≡ false
digit_not_letter b h = grind (arith, nat_tests)

pub not_clings : (b : ℕ) → clings b ≡ false → is_digit b ≡ false
not_clings b h = grind (arith, nat_tests)

pub no_quote : (b : ℕ) → clings b ≡ false → (b == 39) ≡ false
no_quote b h = grind (arith, nat_tests)

pub line_end_is_blank : (b : ℕ) → (b == 10) ≡ true → is_blank b ≡ true
line_end_is_blank b h = grind (arith, nat_tests)

pub line_end_ends_name : (b : ℕ) → (b == 10) ≡ true → is_name_byte b ≡ false
line_end_ends_name b h = grind (arith, nat_tests)

pub blank_not_escaped : (b : ℕ) → is_blank b ≡ true → is_escaped_byte b ≡ false
blank_not_escaped b h = grind (arith, nat_tests)
