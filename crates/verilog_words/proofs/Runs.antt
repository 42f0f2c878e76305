use Rattle.std.proofs.Common.{◌≡◌, ℕ, ◌+◌, ◌<◌, ◌≤◌, List, [], ◌∷◌, ◌++◌, length, take, get_or, Some, None, true, false, not, suc, zero, ap, ◌∙◌, ◌==◌, arith}
use Rattle.std.specs.Prelude.{option_and_then, nat_lt}
use Rattle.std.specs.List.{prefix_len}
use Rattle.std.proofs.lemmas.Bool.{lt-ltb, cond-true, cond-false, not-true, le-ltb}
use Rattle.std.proofs.lemmas.List.{length-take-le}
use Rattle.std.proofs.lemmas.List.Sums.{prefix_len-le-length, prefix_len_passes, prefix_len_stops}
use Rattle.verilog_lexicon.specs.declared.word.Spanned.{Spanned}
use Rattle.verilog_lexicon.specs.Bytes.{is_blank, is_letter, is_digit, is_name_byte, clings, is_escaped_byte}
use Rattle.word_cutter.specs.Run.{run, Stops}
use Rattle.word_cutter.proofs.Runs.{run_byte}
use Rattle.word_cutter.proofs.KeptWords.{one_more, keeps, stays, too_long}
use Rattle.verilog_words.specs.declared.mode.Mode.TheVariants as in_
use Rattle.verilog_words.specs.declared.mode.Enclosure.{Enclosure}
use Rattle.verilog_words.specs.Machine.{State, state, between, begin, step, with_name, with_number}
use Rattle.verilog_words.proofs.Bytes.{letter_not_blank, digit_not_blank, digit_not_letter, not_clings, no_quote}

-- Runs of bytes of one kind.

-- a name

abbrev pub named : List Spanned → ℕ → List ℕ → State
named words from p = state words in_.Name from p

pub name_one : (words : List Spanned) (from at : ℕ) (p : List ℕ) (b : ℕ) → is_name_byte b ≡ true → length p < 255 → step at (named words from p) b ≡ Some (named words from (p ++ b ∷ []))
name_one words from at p b is short = cond-true (is_name_byte b) _ _ is ∙ cond-true (nat_lt (length p) 255) _ _ (lt-ltb (length p) 255 short)

name_none : (words : List Spanned) (from at : ℕ) (p : List ℕ) (b : ℕ) → is_name_byte b ≡ true → 255 ≤ length p → step at (named words from p) b ≡ None
name_none words from at p b is long = cond-true (is_name_byte b) _ _ is ∙ cond-false (nat_lt (length p) 255) _ _ (le-ltb (length p) 255 long)

pub name_keeps : (words : List Spanned) (from : ℕ) (bytes p : List ℕ) (n at : ℕ) → n ≤ prefix_len is_name_byte bytes → length p + n ≤ 255 → run step at (named words from p) (take n bytes) ≡ Some (named words from (p ++ take n bytes))
name_keeps words from = keeps step is_name_byte 255 (named words from) (name_one words from)

pub name_too_long : (words : List Spanned) (from : ℕ) (bytes p : List ℕ) (n at : ℕ) → length p + n ≡ 255 → n < prefix_len is_name_byte bytes → Stops step at (named words from p) bytes n
name_too_long words from = too_long step is_name_byte 255 (named words from) (name_one words from) (name_none words from)

-- an escaped name

abbrev pub escaped : List Spanned → ℕ → List ℕ → State
escaped words from p = state words in_.Escaped from p

pub escaped_one : (words : List Spanned) (from at : ℕ) (p : List ℕ) (b : ℕ) → is_escaped_byte b ≡ true → length p < 255 → step at (escaped words from p) b ≡ Some (escaped words from (p ++ b ∷ []))
escaped_one words from at p b is short = cond-true (is_escaped_byte b) _ _ is ∙ cond-true (nat_lt (length p) 255) _ _ (lt-ltb (length p) 255 short)

escaped_none : (words : List Spanned) (from at : ℕ) (p : List ℕ) (b : ℕ) → is_escaped_byte b ≡ true → 255 ≤ length p → step at (escaped words from p) b ≡ None
escaped_none words from at p b is long = cond-true (is_escaped_byte b) _ _ is ∙ cond-false (nat_lt (length p) 255) _ _ (le-ltb (length p) 255 long)

pub escaped_keeps : (words : List Spanned) (from : ℕ) (bytes p : List ℕ) (n at : ℕ) → n ≤ prefix_len is_escaped_byte bytes → length p + n ≤ 255 → run step at (escaped words from p) (take n bytes) ≡ Some (escaped words from (p ++ take n bytes))
escaped_keeps words from = keeps step is_escaped_byte 255 (escaped words from) (escaped_one words from)

pub escaped_too_long : (words : List Spanned) (from : ℕ) (bytes p : List ℕ) (n at : ℕ) → length p + n ≡ 255 → n < prefix_len is_escaped_byte bytes → Stops step at (escaped words from p) bytes n
escaped_too_long words from = too_long step is_escaped_byte 255 (escaped words from) (escaped_one words from) (escaped_none words from)

-- blanks, the rest of a line, what is enclosed

pub blanks_stay : (words : List Spanned) (bytes : List ℕ) (n at : ℕ) → n ≤ prefix_len is_blank bytes → run step at (between words) (take n bytes) ≡ Some (between words)
blanks_stay words = stays step is_blank (between words) (λ at b is. cond-true (is_blank b) _ _ is)

pub line_stays : (words : List Spanned) (bytes : List ℕ) (n at : ℕ) → n ≤ prefix_len (λ b. not (b == 10)) bytes → run step at (state words in_.Line 0 []) (take n bytes) ≡ Some (state words in_.Line 0 [])
line_stays words = stays step (λ b. not (b == 10)) (state words in_.Line 0 []) (λ at b is. cond-false (b == 10) _ _ (not-true (b == 10) is))

pub enclosed_stays : (e : Enclosure) (words : List Spanned) (bytes : List ℕ) (n at : ℕ) → n ≤ prefix_len (λ b. not (b == 42)) bytes → run step at (state words (in_.Enclosed e) 0 []) (take n bytes) ≡ Some (state words (in_.Enclosed e) 0 [])
enclosed_stays e words = stays step (λ b. not (b == 42)) (state words (in_.Enclosed e) 0 []) (λ at b is. cond-false (b == 42) _ _ (not-true (b == 42) is))

-- a name from its first byte

first_named : (words : List Spanned) (b at : ℕ) → is_letter b ≡ true → step at (between words) b ≡ Some (named words at (b ∷ []))
first_named words b at is = cond-false (is_blank b) _ _ (letter_not_blank b is) ∙ cond-true (is_letter b) _ _ is

pub name_taken : (words : List Spanned) (piece : List ℕ) (n at : ℕ) → is_letter (get_or piece 0 0) ≡ true → 0 < n → n ≤ prefix_len is_name_byte piece → n ≤ 255 → run step at (between words) (take n piece) ≡ Some (named words at (take n piece))
name_taken words [] n at is some all short = absurd (omega arith)
name_taken words (b ∷ bytes) zero at is some all short = absurd (omega arith)
name_taken words (b ∷ bytes) (suc n) at is some all short =
    ap (option_and_then (λ t. run step (at + 1) t (take n bytes))) (first_named words b at is)
    ∙ name_keeps words at bytes (b ∷ []) n (at + 1) (one_more (is_name_byte b) (prefix_len is_name_byte bytes) n all).1 (omega (arith, short))

pub name_begun_too_long : (words : List Spanned) (piece : List ℕ) (at : ℕ) → is_letter (get_or piece 0 0) ≡ true → 255 < prefix_len is_name_byte piece → Stops step at (between words) piece 255
name_begun_too_long words piece at is long = record {
  within = omega (arith, long, prefix_len-le-length is_name_byte piece);
  state = named words at (take 255 piece);
  ran = name_taken words piece 255 at is (omega arith) (omega (arith, long)) (omega arith);
  stops = name_none words at (at + 255) (take 255 piece) (get_or piece 255 0) (prefix_len_passes is_name_byte piece 255 0 long) (omega (arith, length-take-le 255 piece (omega (arith, long, prefix_len-le-length is_name_byte piece))));
}

-- a name and the byte that ends it
pub name_ended : (words : List Spanned) (piece : List ℕ) (n at : ℕ) → is_letter (get_or piece 0 0) ≡ true → 0 < n → n ≡ prefix_len is_name_byte piece → n < length piece → n ≤ 255 → run step at (between words) (take (n + 1) piece) ≡ begin (at + n) (with_name words at (take n piece)) (get_or piece n 0)
name_ended words piece n at is some all within short =
    run_byte step piece n at (between words) (named words at (take n piece)) within (name_taken words piece n at is some (omega (arith, all)) short)
    ∙ cond-false (is_name_byte (get_or piece n 0)) _ _ (ap (λ (k : ℕ). is_name_byte (get_or piece k 0)) all ∙ prefix_len_stops is_name_byte piece 0 (omega (arith, all, within)))

-- a number

abbrev pub numbered : List Spanned → ℕ → List ℕ → State
numbered words from p = state words in_.Number from p

pub number_one : (words : List Spanned) (from at : ℕ) (p : List ℕ) (b : ℕ) → is_digit b ≡ true → length p < 9 → step at (numbered words from p) b ≡ Some (numbered words from (p ++ b ∷ []))
number_one words from at p b is short = cond-true (is_digit b) _ _ is ∙ cond-true (nat_lt (length p) 9) _ _ (lt-ltb (length p) 9 short)

first_numbered : (words : List Spanned) (b at : ℕ) → is_digit b ≡ true → step at (between words) b ≡ Some (numbered words at (b ∷ []))
first_numbered words b at is = cond-false (is_blank b) _ _ (digit_not_blank b is) ∙ cond-false (is_letter b) _ _ (digit_not_letter b is) ∙ cond-true (is_digit b) _ _ is

pub number_taken : (words : List Spanned) (piece : List ℕ) (n at : ℕ) → 0 < n → n ≤ prefix_len is_digit piece → n ≤ 9 → run step at (between words) (take n piece) ≡ Some (numbered words at (take n piece))
number_taken words [] n at some all few = absurd (omega arith)
number_taken words (b ∷ bytes) zero at some all few = absurd (omega arith)
number_taken words (b ∷ bytes) (suc n) at some all few =
    let is = one_more (is_digit b) (prefix_len is_digit bytes) n all in
    ap (option_and_then (λ t. run step (at + 1) t (take n bytes))) (first_numbered words b at is.0)
    ∙ keeps step is_digit 9 (numbered words at) (number_one words at) bytes (b ∷ []) n (at + 1) is.1 (omega (arith, few))

-- the byte that ends a number
pub number_over : (words : List Spanned) (from at : ℕ) (p : List ℕ) (b : ℕ) → clings b ≡ false → step at (numbered words from p) b ≡ begin at (with_number words from p) b
number_over words from at p b free = cond-false (is_digit b) _ _ (not_clings b free) ∙ cond-false (b == 39) _ _ (no_quote b free) ∙ cond-false (clings b) _ _ free

-- a number and the byte that ends it
pub number_ended : (words : List Spanned) (piece : List ℕ) (n at : ℕ) → 0 < n → n ≤ prefix_len is_digit piece → n < length piece → n ≤ 9 → clings (get_or piece n 0) ≡ false → run step at (between words) (take (n + 1) piece) ≡ begin (at + n) (with_number words at (take n piece)) (get_or piece n 0)
number_ended words piece n at some all within few free =
    run_byte step piece n at (between words) (numbered words at (take n piece)) within (number_taken words piece n at some all few)
    ∙ number_over words at (at + n) (take n piece) (get_or piece n 0) free
