use Rattle.std.proofs.Common.{◌≡◌, ℕ, ◌+◌, ◌<◌, ◌≤◌, List, [], ◌∷◌, ◌++◌, length, Some, Bool, true, refl, sym, ap, ◌∙◌, arith, append_assoc, length-append, IsTrue, not, ◌==◌, inl, inr}
use Rattle.std.specs.Prelude.{option_and_then, nat_lt, nat_le}
use Rattle.std.specs.List.{AllByRecursion}
use Rattle.std.proofs.lemmas.Bool.{lt-ltb, le-leb, cond-true, cond-false, not-false}
use Rattle.std.proofs.lemmas.List.{append-nil}
use Rattle.list_laws.proofs.Tests.{true_or_false}
use Rattle.bsdl_lexicon.specs.declared.token.BsdlSpanned.{BsdlSpanned}
use Rattle.bsdl_lexicon.specs.declared.token.BsdlToken.TheVariants as word
use Rattle.bsdl_lexicon.specs.declared.symbol.BsdlSymbol.{BsdlSymbol}
use Rattle.bsdl_lexicon.specs.declared.symbol.BsdlSymbol.TheVariants.{LeftParenthesis, RightParenthesis, Colon, Semicolon, Comma, Ampersand, Dot}
use Rattle.bsdl_lexicon.specs.Bytes.{is_blank, is_letter, is_digit, is_letter_or_digit, is_name_byte, clings, is_exponent_mark, is_sign, is_quotable}
use Rattle.bsdl_lexicon.specs.Words.{spanned, symbol_byte}
use Rattle.bsdl_lexicon.specs.Pieces.{Piece, blank, comment, identifier, integer, real, quoted, symbol, becomes, spelling, IsPiece, Ends, EndsSymbol, IsOneLine, IsFirst, NotFirst, HasSingleUnderscores, AreDigits, IsPower, IsExponent, text_of, ArePieces, word_at, words_from}
use Rattle.bsdl_words.specs.declared.mode.Mode.TheVariants as in_
use Rattle.bsdl_words.specs.declared.mode.Mode.{Mode}
use Rattle.bsdl_words.specs.Machine.{state, between, step, end, with_name, with_integer, with_real, with_quoted, with_colon, with_becomes}
use Rattle.word_cutter.proofs.KeptWords.{kept_on, stayed_on}
use Rattle.bsdl_words.proofs.Outcome.{outcome, same_outcome, same_place}
use Rattle.bsdl_words.proofs.Bytes.{letter_not_blank, digit_not_blank, digit_not_letter, clings_not_digit, clings_no_point, clings_not_name, name_not_digit, name_no_mark, mark_not_digit, sign_not_digit, quotable_no_quote, line_end_is_blank}

-- the same place, spelled otherwise, and the same words
same_between : (rest : List ℕ) (a b : ℕ) (v w : List BsdlSpanned) → a ≡ b → v ≡ w → outcome a (between v) rest ≡ outcome b (between w) rest
same_between rest a b v w e f = ap (λ (x : ℕ). outcome x (between v) rest) e ∙ ap (λ (x : List BsdlSpanned). outcome b (between x) rest) f

-- nothing was kept
kept_none : (m : Mode) (rest p : List ℕ) (at from : ℕ) (words : List BsdlSpanned) → outcome at (state words m from p) rest ≡ outcome (at + 0) (state words m from (p ++ [])) rest
kept_none m rest p at from words = same_outcome m words from rest at (at + 0) p (p ++ []) (omega arith) (sym (append-nil p))

-- one byte more, and these, were kept
kept_more : (m : Mode) (rest p bs : List ℕ) (b at from : ℕ) (words : List BsdlSpanned) → outcome (at + 1 + length bs) (state words m from ((p ++ b ∷ []) ++ bs)) rest ≡ outcome (at + length (b ∷ bs)) (state words m from (p ++ b ∷ bs)) rest
kept_more m rest p bs b at from words = same_outcome m words from rest (at + 1 + length bs) (at + length (b ∷ bs)) ((p ++ b ∷ []) ++ bs) (p ++ b ∷ bs) (omega arith) (append_assoc p (b ∷ []) bs)

-- an identifier goes on, and ends

first_some : (test : ℕ → Bool) (bs : List ℕ) → IsFirst test bs → 0 < length bs
first_some test [] first = absurd first
first_some test (b ∷ bs) first = omega arith

record NameGoes (bs rest : List ℕ) : Type 0 where
  after_letter : (p : List ℕ) (at from : ℕ) (words : List BsdlSpanned) → AllByRecursion (λ c. IsTrue (is_name_byte c)) bs → HasSingleUnderscores bs → length p + length bs ≤ 255 → outcome at (state words in_.Name from p) (bs ++ rest) ≡ outcome (at + length bs) (state words in_.Name from (p ++ bs)) rest
  after_underscore : (p : List ℕ) (at from : ℕ) (words : List BsdlSpanned) → AllByRecursion (λ c. IsTrue (is_name_byte c)) bs → HasSingleUnderscores bs → length p + length bs ≤ 255 → IsFirst is_letter_or_digit bs → outcome at (state words in_.Underscore from p) (bs ++ rest) ≡ outcome (at + length bs) (state words in_.Name from (p ++ bs)) rest

name_byte : (b : ℕ) (bs rest : List ℕ) → NameGoes bs rest → (p : List ℕ) (at from : ℕ) (words : List BsdlSpanned) → AllByRecursion (λ c. IsTrue (is_name_byte c)) (b ∷ bs) → HasSingleUnderscores (b ∷ bs) → length p + length (b ∷ bs) ≤ 255 → outcome at (state words in_.Name from p) (b ∷ (bs ++ rest)) ≡ outcome (at + length (b ∷ bs)) (state words in_.Name from (p ++ b ∷ bs)) rest
name_byte b bs rest next p at from words are single short = elim (true_or_false (b == 95)) [
  | inl under ↦
      ap (option_and_then (λ t. outcome (at + 1) t (bs ++ rest))) (cond-true (is_name_byte b) _ _ are.0 ∙ cond-true (b == 95) _ _ under ∙ cond-true (nat_lt (length p) 254) _ _ (lt-ltb (length p) 254 (omega (arith, first_some is_letter_or_digit bs (single.0 under)))))
      ∙ next.after_underscore (p ++ b ∷ []) (at + 1) from words are.1 single.1 (omega (arith, length-append p (b ∷ []))) (single.0 under)
      ∙ kept_more in_.Name rest p bs b at from words
  | inr other ↦
      ap (option_and_then (λ t. outcome (at + 1) t (bs ++ rest))) (cond-true (is_name_byte b) _ _ are.0 ∙ cond-false (b == 95) _ _ other ∙ cond-true (nat_lt (length p) 255) _ _ (lt-ltb (length p) 255 (omega arith)))
      ∙ next.after_letter (p ++ b ∷ []) (at + 1) from words are.1 single.1 (omega (arith, length-append p (b ∷ [])))
      ∙ kept_more in_.Name rest p bs b at from words
]

name_goes : (bs rest : List ℕ) → NameGoes bs rest
name_goes [] rest = record {
  after_letter = λ p at from words are single short. kept_none in_.Name rest p at from words;
  after_underscore = λ p at from words are single short first. absurd first;
}
name_goes (b ∷ bs) rest = record {
  after_letter = name_byte b bs rest (name_goes bs rest);
  after_underscore = λ p at from words are single short first.
      ap (option_and_then (λ t. outcome (at + 1) t (bs ++ rest))) (cond-true (is_letter_or_digit b) _ _ first)
      ∙ (name_goes bs rest).after_letter (p ++ b ∷ []) (at + 1) from words are.1 single.1 (omega (arith, length-append p (b ∷ [])))
      ∙ kept_more in_.Name rest p bs b at from words;
}

name_ends : (rest p : List ℕ) (at from : ℕ) (words : List BsdlSpanned) → NotFirst is_name_byte rest → outcome at (state words in_.Name from p) rest ≡ outcome at (between (with_name words from p)) rest
name_ends [] p at from words ends = refl
name_ends (b ∷ rest) p at from words ends = ap (option_and_then (λ t. outcome (at + 1) t rest)) (cond-false (is_name_byte b) _ _ ends)

-- digits, of an integer or before a point

digits_go : (bs rest p : List ℕ) (at from : ℕ) (words : List BsdlSpanned) → AllByRecursion (λ c. IsTrue (is_digit c)) bs → length p + length bs ≤ 30 → outcome at (state words in_.Digits from p) (bs ++ rest) ≡ outcome (at + length bs) (state words in_.Digits from (p ++ bs)) rest
digits_go bs rest p at from words are short =
    kept_on step end _ 30 (λ q. state words in_.Digits from q)
    (λ here q b digit few. cond-true (is_digit b) _ _ digit ∙ cond-true (nat_lt (length q) 30) _ _ (lt-ltb (length q) 30 few))
    bs rest p at are short

integer_ends : (rest p : List ℕ) (at from : ℕ) (words : List BsdlSpanned) → length p ≤ 9 → NotFirst clings rest → outcome at (state words in_.Digits from p) rest ≡ outcome at (between (with_integer words from p)) rest
integer_ends [] p at from words few ends = cond-true (nat_le (length p) 9) _ _ (le-leb (length p) 9 few)
integer_ends (b ∷ rest) p at from words few ends =
    ap (option_and_then (λ t. outcome (at + 1) t rest)) (cond-false (is_digit b) _ _ (clings_not_digit b ends) ∙ cond-false (b == 46) _ _ (clings_no_point b ends) ∙ cond-false (is_name_byte b) _ _ (clings_not_name b ends) ∙ cond-true (nat_le (length p) 9) _ _ (le-leb (length p) 9 few))

-- a real number, from its end

-- one byte more, and these, are those of a real number
real_more : (rest p bs : List ℕ) (b at from : ℕ) (words : List BsdlSpanned) → outcome (at + 1 + length bs) (between (with_real words from ((p ++ b ∷ []) ++ bs))) rest ≡ outcome (at + length (b ∷ bs)) (between (with_real words from (p ++ b ∷ bs))) rest
real_more rest p bs b at from words = same_between rest (at + 1 + length bs) (at + length (b ∷ bs)) (with_real words from ((p ++ b ∷ []) ++ bs)) (with_real words from (p ++ b ∷ bs)) (omega arith) (ap (with_real words from) (append_assoc p (b ∷ []) bs))

power_ends : (rest p : List ℕ) (at from : ℕ) (words : List BsdlSpanned) → NotFirst is_name_byte rest → outcome at (state words in_.Power from p) rest ≡ outcome at (between (with_real words from p)) rest
power_ends [] p at from words ends = refl
power_ends (b ∷ rest) p at from words ends = ap (option_and_then (λ t. outcome (at + 1) t rest)) (cond-false (is_digit b) _ _ (name_not_digit b ends) ∙ cond-false (is_name_byte b) _ _ ends)

power_goes : (bs rest p : List ℕ) (at from : ℕ) (words : List BsdlSpanned) → AllByRecursion (λ c. IsTrue (is_digit c)) bs → length p + length bs ≤ 32 → NotFirst is_name_byte rest → outcome at (state words in_.Power from p) (bs ++ rest) ≡ outcome (at + length bs) (between (with_real words from (p ++ bs))) rest
power_goes bs rest p at from words are short ends =
    kept_on step end _ 32 (λ q. state words in_.Power from q)
    (λ here q b digit few. cond-true (is_digit b) _ _ digit ∙ cond-true (nat_lt (length q) 32) _ _ (lt-ltb (length q) 32 few))
    bs rest p at are short
    ∙ power_ends rest (p ++ bs) (at + length bs) from words ends

after_sign : (ds rest p : List ℕ) (at from : ℕ) (words : List BsdlSpanned) → AreDigits ds → length p + length ds ≤ 32 → NotFirst is_name_byte rest → outcome at (state words in_.Sign from p) (ds ++ rest) ≡ outcome (at + length ds) (between (with_real words from (p ++ ds))) rest
after_sign [] rest p at from words are short ends = absurd (omega (arith, are.0))
after_sign (d ∷ ds) rest p at from words are short ends =
    ap (option_and_then (λ t. outcome (at + 1) t (ds ++ rest))) (cond-true (is_digit d) _ _ are.1.0)
    ∙ power_goes ds rest (p ++ d ∷ []) (at + 1) from words are.1.1 (omega (arith, length-append p (d ∷ []))) ends
    ∙ real_more rest p ds d at from words

after_mark : (q rest p : List ℕ) (at from : ℕ) (words : List BsdlSpanned) → IsPower q → length p + length q ≤ 32 → NotFirst is_name_byte rest → outcome at (state words in_.Exponent from p) (q ++ rest) ≡ outcome (at + length q) (between (with_real words from (p ++ q))) rest
after_mark [] rest p at from words is short ends = absurd is
after_mark (c ∷ ds) rest p at from words is short ends = elim is [
  | inl digits ↦
      ap (option_and_then (λ t. outcome (at + 1) t (ds ++ rest))) (cond-true (is_digit c) _ _ digits.1.0)
      ∙ power_goes ds rest (p ++ c ∷ []) (at + 1) from words digits.1.1 (omega (arith, length-append p (c ∷ []))) ends
      ∙ real_more rest p ds c at from words
  | inr signed ↦
      ap (option_and_then (λ t. outcome (at + 1) t (ds ++ rest))) (cond-false (is_digit c) _ _ (sign_not_digit c signed.0) ∙ cond-true (is_sign c) _ _ signed.0 ∙ cond-true (nat_lt (length p) 31) _ _ (lt-ltb (length p) 31 (omega (arith, signed.1.0))))
      ∙ after_sign ds rest (p ++ c ∷ []) (at + 1) from words signed.1 (omega (arith, length-append p (c ∷ []))) ends
      ∙ real_more rest p ds c at from words
]

fraction_ends : (rest p : List ℕ) (at from : ℕ) (words : List BsdlSpanned) → NotFirst is_name_byte rest → outcome at (state words in_.Fraction from p) rest ≡ outcome (at + 0) (between (with_real words from (p ++ []))) rest
fraction_ends [] p at from words ends = same_between [] at (at + 0) (with_real words from p) (with_real words from (p ++ [])) (omega arith) (ap (with_real words from) (sym (append-nil p)))
fraction_ends (b ∷ rest) p at from words ends =
    ap (option_and_then (λ t. outcome (at + 1) t rest)) (cond-false (is_digit b) _ _ (name_not_digit b ends) ∙ cond-false (is_exponent_mark b) _ _ (name_no_mark b ends) ∙ cond-false (is_name_byte b) _ _ ends)
    ∙ same_between (b ∷ rest) at (at + 0) (with_real words from p) (with_real words from (p ++ [])) (omega arith) (ap (with_real words from) (sym (append-nil p)))

exponent_goes : (x rest p : List ℕ) (at from : ℕ) (words : List BsdlSpanned) → IsExponent x → length p + length x ≤ 32 → NotFirst is_name_byte rest → outcome at (state words in_.Fraction from p) (x ++ rest) ≡ outcome (at + length x) (between (with_real words from (p ++ x))) rest
exponent_goes [] rest p at from words is short ends = fraction_ends rest p at from words ends
exponent_goes (e ∷ []) rest p at from words is short ends = absurd is.1
exponent_goes (e ∷ c ∷ q) rest p at from words is short ends =
    ap (option_and_then (λ t. outcome (at + 1) t ((c ∷ q) ++ rest))) (cond-false (is_digit e) _ _ (mark_not_digit e is.0) ∙ cond-true (is_exponent_mark e) _ _ is.0 ∙ cond-true (nat_lt (length p) 31) _ _ (lt-ltb (length p) 31 (omega arith)))
    ∙ after_mark (c ∷ q) rest (p ++ e ∷ []) (at + 1) from words is.1 (omega (arith, length-append p (e ∷ []))) ends
    ∙ real_more rest p (c ∷ q) e at from words

fraction_goes : (f x rest p : List ℕ) (at from : ℕ) (words : List BsdlSpanned) → AllByRecursion (λ c. IsTrue (is_digit c)) f → IsExponent x → length p + length (f ++ x) ≤ 32 → NotFirst is_name_byte rest → outcome at (state words in_.Fraction from p) ((f ++ x) ++ rest) ≡ outcome (at + length (f ++ x)) (between (with_real words from (p ++ (f ++ x)))) rest
fraction_goes [] x rest p at from words are is short ends = exponent_goes x rest p at from words is short ends
fraction_goes (b ∷ f) x rest p at from words are is short ends =
    ap (option_and_then (λ t. outcome (at + 1) t ((f ++ x) ++ rest))) (cond-true (is_digit b) _ _ are.0 ∙ cond-true (nat_lt (length p) 32) _ _ (lt-ltb (length p) 32 (omega arith)))
    ∙ fraction_goes f x rest (p ++ b ∷ []) (at + 1) from words are.1 is (omega (arith, length-append p (b ∷ []))) ends
    ∙ real_more rest p (f ++ x) b at from words

after_point : (f x rest p : List ℕ) (at from : ℕ) (words : List BsdlSpanned) → AreDigits f → IsExponent x → length p + length (f ++ x) ≤ 32 → NotFirst is_name_byte rest → outcome at (state words in_.Point from p) ((f ++ x) ++ rest) ≡ outcome (at + length (f ++ x)) (between (with_real words from (p ++ (f ++ x)))) rest
after_point [] x rest p at from words are is short ends = absurd (omega (arith, are.0))
after_point (d ∷ f) x rest p at from words are is short ends =
    ap (option_and_then (λ t. outcome (at + 1) t ((f ++ x) ++ rest))) (cond-true (is_digit d) _ _ are.1.0)
    ∙ fraction_goes f x rest (p ++ d ∷ []) (at + 1) from words are.1.1 is (omega (arith, length-append p (d ∷ []))) ends
    ∙ real_more rest p (f ++ x) d at from words

-- its digits before the point
whole_goes : (w f x rest p : List ℕ) (at from : ℕ) (words : List BsdlSpanned) → AllByRecursion (λ c. IsTrue (is_digit c)) w → AreDigits f → IsExponent x → length p + length (w ++ 46 ∷ (f ++ x)) ≤ 32 → NotFirst is_name_byte rest → outcome at (state words in_.Digits from p) ((w ++ 46 ∷ (f ++ x)) ++ rest) ≡ outcome (at + length (w ++ 46 ∷ (f ++ x))) (between (with_real words from (p ++ (w ++ 46 ∷ (f ++ x))))) rest
whole_goes [] f x rest p at from words digits are is short ends =
    after_point f x rest (p ++ 46 ∷ []) (at + 1) from words are is (omega (arith, length-append p (46 ∷ []))) ends
    ∙ real_more rest p (f ++ x) 46 at from words
whole_goes (b ∷ w) f x rest p at from words digits are is short ends =
    ap (option_and_then (λ t. outcome (at + 1) t ((w ++ 46 ∷ (f ++ x)) ++ rest))) (cond-true (is_digit b) _ _ digits.0 ∙ cond-true (nat_lt (length p) 30) _ _ (lt-ltb (length p) 30 (omega (arith, are.0, length-append w (46 ∷ (f ++ x)), length-append f x))))
    ∙ whole_goes w f x rest (p ++ b ∷ []) (at + 1) from words digits.1 are is (omega (arith, length-append p (b ∷ []))) ends
    ∙ real_more rest p (w ++ 46 ∷ (f ++ x)) b at from words

real_goes : (w f x rest : List ℕ) (at : ℕ) (words : List BsdlSpanned) → AreDigits w → AreDigits f → IsExponent x → length (w ++ 46 ∷ (f ++ x)) ≤ 32 → NotFirst is_name_byte rest → outcome at (between words) ((w ++ 46 ∷ (f ++ x)) ++ rest) ≡ outcome (at + length (w ++ 46 ∷ (f ++ x))) (between (with_real words at (w ++ 46 ∷ (f ++ x)))) rest
real_goes [] f x rest at words digits are is short ends = absurd (omega (arith, digits.0))
real_goes (b ∷ w) f x rest at words digits are is short ends =
    ap (option_and_then (λ t. outcome (at + 1) t ((w ++ 46 ∷ (f ++ x)) ++ rest))) (cond-false (is_blank b) _ _ (digit_not_blank b digits.1.0) ∙ cond-false (is_letter b) _ _ (digit_not_letter b digits.1.0) ∙ cond-true (is_digit b) _ _ digits.1.0)
    ∙ whole_goes w f x rest (b ∷ []) (at + 1) at words digits.1.1 are is (omega (arith, short)) ends
    ∙ same_place (between (with_real words at (b ∷ (w ++ 46 ∷ (f ++ x))))) rest (at + 1 + length (w ++ 46 ∷ (f ++ x))) (at + length (b ∷ (w ++ 46 ∷ (f ++ x)))) (omega arith)

-- a string

quoted_goes : (bs rest p : List ℕ) (at from : ℕ) (words : List BsdlSpanned) → AllByRecursion (λ c. IsTrue (is_quotable c)) bs → outcome at (state words in_.Quoted from p) (bs ++ 34 ∷ rest) ≡ outcome (at + length bs + 1) (between (with_quoted words from (p ++ bs))) rest
quoted_goes bs rest p at from words are =
    kept_on step end _ (length p + length bs) (λ q. state words in_.Quoted from q)
    (λ here q b quotable few. cond-false (b == 34) _ _ (quotable_no_quote b quotable) ∙ cond-true (is_quotable b) _ _ quotable)
    bs (34 ∷ rest) p at are (omega arith)

-- a comment

comment_goes : (bs rest : List ℕ) (at : ℕ) (words : List BsdlSpanned) → IsOneLine bs → outcome at (state words in_.Comment 0 []) (bs ++ rest) ≡ outcome (at + length bs) (state words in_.Comment 0 []) rest
comment_goes bs rest at words are = stayed_on step end _ (state words in_.Comment 0 []) (λ here b other. cond-false (b == 10) _ _ other) bs rest at are

comment_ends : (rest : List ℕ) (at : ℕ) (words : List BsdlSpanned) → NotFirst (λ c. not (c == 10)) rest → outcome at (state words in_.Comment 0 []) rest ≡ outcome at (between words) rest
comment_ends [] at words ends = refl
comment_ends (b ∷ rest) at words ends =
    let is_lf : (b == 10) ≡ true = not-false (b == 10) ends in
    ap (option_and_then (λ t. outcome (at + 1) t rest)) (cond-true (b == 10) _ _ is_lf ∙ sym (cond-true (is_blank b) _ _ (line_end_is_blank b is_lf)))

-- a symbol

colon_ends : (rest : List ℕ) (at from : ℕ) (words : List BsdlSpanned) → NotFirst (λ c. c == 61) rest → outcome at (state words in_.Colon from []) rest ≡ outcome at (between (with_colon words from)) rest
colon_ends [] at from words ends = refl
colon_ends (b ∷ rest) at from words ends = ap (option_and_then (λ t. outcome (at + 1) t rest)) (cond-false (b == 61) _ _ ends)

symbol_through : (s : BsdlSymbol) (rest : List ℕ) (at : ℕ) (words : List BsdlSpanned) → EndsSymbol s rest → outcome at (between words) (symbol_byte s ∷ rest) ≡ outcome (at + 1) (between (words ++ spanned (word.Symbol s) at 1 ∷ [])) rest
symbol_through LeftParenthesis rest at words ends = refl
symbol_through RightParenthesis rest at words ends = refl
symbol_through Colon rest at words ends = colon_ends rest (at + 1) at words ends
symbol_through Semicolon rest at words ends = refl
symbol_through Comma rest at words ends = refl
symbol_through Ampersand rest at words ends = refl
symbol_through Dot rest at words ends = refl

-- the machine goes through a piece
through : (p : Piece) (rest : List ℕ) (at : ℕ) (words : List BsdlSpanned) → IsPiece p → Ends p rest → outcome at (between words) (spelling p ++ rest) ≡ outcome (at + length (spelling p)) (between (words ++ word_at at p)) rest
through (blank b) rest at words is ends =
    ap (option_and_then (λ t. outcome (at + 1) t rest)) (cond-true (is_blank b) _ _ is)
    ∙ same_between rest (at + 1) (at + 1) words (words ++ []) refl (sym (append-nil words))
through (comment bytes) rest at words is ends =
    comment_goes bytes rest (at + 1 + 1) words is
    ∙ comment_ends rest (at + 1 + 1 + length bytes) words ends
    ∙ same_between rest (at + 1 + 1 + length bytes) (at + length (spelling (comment bytes))) words (words ++ []) (omega arith) (sym (append-nil words))
through (identifier []) rest at words is ends = absurd is
through (identifier (b ∷ bs)) rest at words is ends =
    ap (option_and_then (λ t. outcome (at + 1) t (bs ++ rest))) (cond-false (is_blank b) _ _ (letter_not_blank b is.0) ∙ cond-true (is_letter b) _ _ is.0)
    ∙ (name_goes bs rest).after_letter (b ∷ []) (at + 1) at words is.1 is.2 (omega (arith, is.3))
    ∙ name_ends rest (b ∷ bs) (at + 1 + length bs) at words ends
    ∙ same_place (between (with_name words at (b ∷ bs))) rest (at + 1 + length bs) (at + length (b ∷ bs)) (omega arith)
through (integer []) rest at words is ends = absurd (omega (arith, is.0.0))
through (integer (b ∷ bs)) rest at words is ends =
    ap (option_and_then (λ t. outcome (at + 1) t (bs ++ rest))) (cond-false (is_blank b) _ _ (digit_not_blank b is.0.1.0) ∙ cond-false (is_letter b) _ _ (digit_not_letter b is.0.1.0) ∙ cond-true (is_digit b) _ _ is.0.1.0)
    ∙ digits_go bs rest (b ∷ []) (at + 1) at words is.0.1.1 (omega (arith, is.1))
    ∙ integer_ends rest (b ∷ bs) (at + 1 + length bs) at words is.1 ends
    ∙ same_place (between (with_integer words at (b ∷ bs))) rest (at + 1 + length bs) (at + length (b ∷ bs)) (omega arith)
through (real bytes) rest at words is ends =
    ap (λ (l : List ℕ). outcome at (between words) (l ++ rest)) is.text
    ∙ real_goes is.whole is.fraction is.exponent rest at words is.whole_digits is.fraction_digits is.exponent_is (omega (arith, is.short, ap length is.text)) ends
    ∙ ap (λ (l : List ℕ). outcome (at + length l) (between (with_real words at l)) rest) (sym is.text)
through (quoted bytes) rest at words is ends =
    ap (λ (l : List ℕ). outcome (at + 1) (state words in_.Quoted at []) l) (append_assoc bytes (34 ∷ []) rest)
    ∙ quoted_goes bytes rest [] (at + 1) at words is
    ∙ same_place (between (with_quoted words at bytes)) rest (at + 1 + length bytes + 1) (at + length (spelling (quoted bytes))) (omega (arith, length-append bytes (34 ∷ [])))
through (symbol s) rest at words is ends = symbol_through s rest at words ends
through becomes rest at words is ends = same_place (between (with_becomes words at)) rest (at + 1 + 1) (at + 2) (omega arith)

-- and through all of them
pub complete : (ps : List Piece) (at : ℕ) (words : List BsdlSpanned) → ArePieces ps → outcome at (between words) (text_of ps) ≡ Some (words ++ words_from at ps)
complete [] at words are = ap Some (sym (append-nil words))
complete (p ∷ ps) at words are =
    through p (text_of ps) at words are.0 are.1
    ∙ complete ps (at + length (spelling p)) (words ++ word_at at p) are.2
    ∙ ap (λ (x : List BsdlSpanned). Some x) (append_assoc words (word_at at p) (words_from (at + length (spelling p)) ps))
