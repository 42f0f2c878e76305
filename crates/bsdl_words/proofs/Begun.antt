use Rattle.std.proofs.Common.{◌≡◌, ℕ, ◌<◌, ◌≤◌, List, [], ◌∷◌, ◌++◌, length, Bool, true, false, refl, sym, ap, ◌∙◌, arith, append_assoc, length-append, ◌==◌, inl, inr}
use Rattle.std.proofs.lemmas.List.{append-nil}
use Rattle.list_laws.proofs.Lists.{all_append}
use Rattle.bsdl_lexicon.specs.Bytes.{is_digit, is_letter_or_digit, is_exponent_mark, is_sign}
use Rattle.bsdl_lexicon.specs.Pieces.{IsFirst, HasSingleUnderscores, IsIdentifier, AreDigits, IsPower, IsReal}
use Rattle.bsdl_words.proofs.Bytes.{letter_in_name, letter_no_underscore}

-- What was begun of a word, and one byte more.

-- an identifier

no_underscore : (b : ℕ) → is_letter_or_digit b ≡ true → (b == 95) ≡ true → ⊥
no_underscore b h under = let no : true ≡ false = sym under ∙ letter_no_underscore b h in cc

first_push : (test : ℕ → Bool) (xs ys : List ℕ) → IsFirst test xs → IsFirst test (xs ++ ys)
first_push test [] ys first = absurd first
first_push test (x ∷ xs) ys first = first

single_push : (xs : List ℕ) (b : ℕ) → HasSingleUnderscores xs → is_letter_or_digit b ≡ true → HasSingleUnderscores (xs ++ b ∷ [])
single_push [] b single is = (λ under. absurd (no_underscore b is under), tt)
single_push (x ∷ xs) b single is = (λ under. first_push is_letter_or_digit xs (b ∷ []) (single.0 under), single_push xs b single.1 is)

-- the same where `_` came before
single_push_after : (xs : List ℕ) (b : ℕ) → HasSingleUnderscores xs → is_letter_or_digit b ≡ true → HasSingleUnderscores ((xs ++ 95 ∷ []) ++ b ∷ [])
single_push_after [] b single is = (λ under. is, (λ under. absurd (no_underscore b is under), tt))
single_push_after (x ∷ xs) b single is =
    (λ under. first_push is_letter_or_digit (xs ++ 95 ∷ []) (b ∷ []) (first_push is_letter_or_digit xs (95 ∷ []) (single.0 under)), single_push_after xs b single.1 is)

pub name_push : (p : List ℕ) (b : ℕ) → IsIdentifier p → is_letter_or_digit b ≡ true → length p < 255 → IsIdentifier (p ++ b ∷ [])
name_push [] b is more short = absurd is
name_push (x ∷ p) b is more short = (is.0, all_append _ p (b ∷ []) is.1 (letter_in_name b more, tt), single_push p b is.2 more, omega (arith, length-append p (b ∷ [])))

pub underscore_push : (p : List ℕ) (b : ℕ) → IsIdentifier p → is_letter_or_digit b ≡ true → length p < 254 → IsIdentifier ((p ++ 95 ∷ []) ++ b ∷ [])
underscore_push [] b is more short = absurd is
underscore_push (x ∷ p) b is more short =
    (is.0, all_append _ (p ++ 95 ∷ []) (b ∷ []) (all_append _ p (95 ∷ []) is.1 (refl, tt)) (letter_in_name b more, tt), single_push_after p b is.2 more, omega (arith, length-append (p ++ 95 ∷ []) (b ∷ []), length-append p (95 ∷ [])))

-- digits

pub digits_push : (ds : List ℕ) (d : ℕ) → AreDigits ds → is_digit d ≡ true → AreDigits (ds ++ d ∷ [])
digits_push ds d are is = (omega (arith, length-append ds (d ∷ [])), all_append _ ds (d ∷ []) are.1 (is, tt))

one_digit : (d : ℕ) → is_digit d ≡ true → AreDigits (d ∷ [])
one_digit d is = (omega arith, (is, tt))

power_more : (q : List ℕ) (d : ℕ) → IsPower q → is_digit d ≡ true → IsPower (q ++ d ∷ [])
power_more [] d is digit = absurd is
power_more (c ∷ ds) d is digit = elim is [
  | inl digits ↦ inl (digits_push (c ∷ ds) d digits digit)
  | inr signed ↦ inr (signed.0, digits_push ds d signed.1 digit)
]

-- a real number up to its point
pub record Pointed (p : List ℕ) : Type 0 where
  pub whole : List ℕ
  pub text : p ≡ whole ++ 46 ∷ []
  pub whole_digits : AreDigits whole
  pub short : length p ≤ 31

-- up to a digit after it
pub record Fractioned (p : List ℕ) : Type 0 where
  pub whole : List ℕ
  pub fraction : List ℕ
  pub text : p ≡ whole ++ 46 ∷ fraction
  pub whole_digits : AreDigits whole
  pub fraction_digits : AreDigits fraction
  pub short : length p ≤ 32

-- up to `e` or `E`
pub record Marked (p : List ℕ) : Type 0 where
  pub whole : List ℕ
  pub fraction : List ℕ
  pub mark : ℕ
  pub text : p ≡ whole ++ 46 ∷ (fraction ++ mark ∷ [])
  pub whole_digits : AreDigits whole
  pub fraction_digits : AreDigits fraction
  pub mark_is : is_exponent_mark mark ≡ true
  pub short : length p ≤ 31

-- up to the sign of its exponent
pub record Signed (p : List ℕ) : Type 0 where
  pub whole : List ℕ
  pub fraction : List ℕ
  pub mark : ℕ
  pub sign : ℕ
  pub text : p ≡ whole ++ 46 ∷ (fraction ++ mark ∷ sign ∷ [])
  pub whole_digits : AreDigits whole
  pub fraction_digits : AreDigits fraction
  pub mark_is : is_exponent_mark mark ≡ true
  pub sign_is : is_sign sign ≡ true
  pub short : length p ≤ 31

-- up to a digit of its exponent
pub record Powered (p : List ℕ) : Type 0 where
  pub whole : List ℕ
  pub fraction : List ℕ
  pub mark : ℕ
  pub power : List ℕ
  pub text : p ≡ whole ++ 46 ∷ (fraction ++ mark ∷ power)
  pub whole_digits : AreDigits whole
  pub fraction_digits : AreDigits fraction
  pub mark_is : is_exponent_mark mark ≡ true
  pub power_is : IsPower power
  pub short : length p ≤ 32

-- the equation of the text with one byte more
text_more : (p whole after : List ℕ) (b : ℕ) → p ≡ whole ++ 46 ∷ after → p ++ b ∷ [] ≡ whole ++ 46 ∷ (after ++ b ∷ [])
text_more p whole after b is = ap (λ (l : List ℕ). l ++ b ∷ []) is ∙ append_assoc whole (46 ∷ after) (b ∷ [])

-- the same where the fraction stays
power_text : (p whole fraction more : List ℕ) (b : ℕ) → p ≡ whole ++ 46 ∷ (fraction ++ more) → p ++ b ∷ [] ≡ whole ++ 46 ∷ (fraction ++ (more ++ b ∷ []))
power_text p whole fraction more b is =
    text_more p whole (fraction ++ more) b is ∙ ap (λ (l : List ℕ). whole ++ 46 ∷ l) (append_assoc fraction more (b ∷ []))

pub pointed : (p : List ℕ) → AreDigits p → length p ≤ 30 → Pointed (p ++ 46 ∷ [])
pointed p are short = record { whole = p; text = refl; whole_digits = are; short = omega (arith, length-append p (46 ∷ [])) }

pub fraction_first : (p : List ℕ) (d : ℕ) → Pointed p → is_digit d ≡ true → Fractioned (p ++ d ∷ [])
fraction_first p d is digit = record {
  whole = is.whole;
  fraction = d ∷ [];
  text = text_more p is.whole [] d is.text;
  whole_digits = is.whole_digits;
  fraction_digits = one_digit d digit;
  short = omega (arith, is.short, length-append p (d ∷ []));
}

pub fraction_push : (p : List ℕ) (d : ℕ) → Fractioned p → is_digit d ≡ true → length p < 32 → Fractioned (p ++ d ∷ [])
fraction_push p d is digit room = record {
  whole = is.whole;
  fraction = is.fraction ++ d ∷ [];
  text = text_more p is.whole is.fraction d is.text;
  whole_digits = is.whole_digits;
  fraction_digits = digits_push is.fraction d is.fraction_digits digit;
  short = omega (arith, length-append p (d ∷ []));
}

pub marked : (p : List ℕ) (e : ℕ) → Fractioned p → is_exponent_mark e ≡ true → length p < 31 → Marked (p ++ e ∷ [])
marked p e is mark room = record {
  whole = is.whole;
  fraction = is.fraction;
  mark = e;
  text = text_more p is.whole is.fraction e is.text;
  whole_digits = is.whole_digits;
  fraction_digits = is.fraction_digits;
  mark_is = mark;
  short = omega (arith, length-append p (e ∷ []));
}

pub signed : (p : List ℕ) (s : ℕ) → Marked p → is_sign s ≡ true → length p < 31 → Signed (p ++ s ∷ [])
signed p s is sign room = record {
  whole = is.whole;
  fraction = is.fraction;
  mark = is.mark;
  sign = s;
  text = power_text p is.whole is.fraction (is.mark ∷ []) s is.text;
  whole_digits = is.whole_digits;
  fraction_digits = is.fraction_digits;
  mark_is = is.mark_is;
  sign_is = sign;
  short = omega (arith, length-append p (s ∷ []));
}

pub power_first : (p : List ℕ) (d : ℕ) → Marked p → is_digit d ≡ true → Powered (p ++ d ∷ [])
power_first p d is digit = record {
  whole = is.whole;
  fraction = is.fraction;
  mark = is.mark;
  power = d ∷ [];
  text = power_text p is.whole is.fraction (is.mark ∷ []) d is.text;
  whole_digits = is.whole_digits;
  fraction_digits = is.fraction_digits;
  mark_is = is.mark_is;
  power_is = inl (one_digit d digit);
  short = omega (arith, is.short, length-append p (d ∷ []));
}

pub power_signed : (p : List ℕ) (d : ℕ) → Signed p → is_digit d ≡ true → Powered (p ++ d ∷ [])
power_signed p d is digit = record {
  whole = is.whole;
  fraction = is.fraction;
  mark = is.mark;
  power = is.sign ∷ d ∷ [];
  text = power_text p is.whole is.fraction (is.mark ∷ is.sign ∷ []) d is.text;
  whole_digits = is.whole_digits;
  fraction_digits = is.fraction_digits;
  mark_is = is.mark_is;
  power_is = inr (is.sign_is, one_digit d digit);
  short = omega (arith, is.short, length-append p (d ∷ []));
}

pub power_push : (p : List ℕ) (d : ℕ) → Powered p → is_digit d ≡ true → length p < 32 → Powered (p ++ d ∷ [])
power_push p d is digit room = record {
  whole = is.whole;
  fraction = is.fraction;
  mark = is.mark;
  power = is.power ++ d ∷ [];
  text = power_text p is.whole is.fraction (is.mark ∷ is.power) d is.text;
  whole_digits = is.whole_digits;
  fraction_digits = is.fraction_digits;
  mark_is = is.mark_is;
  power_is = power_more is.power d is.power_is digit;
  short = omega (arith, length-append p (d ∷ []));
}

-- what is whole

pub real_of_fraction : (p : List ℕ) → Fractioned p → IsReal p
real_of_fraction p is = record {
  whole = is.whole;
  fraction = is.fraction;
  exponent = [];
  text = is.text ∙ ap (λ (l : List ℕ). is.whole ++ 46 ∷ l) (sym (append-nil is.fraction));
  whole_digits = is.whole_digits;
  fraction_digits = is.fraction_digits;
  exponent_is = tt;
  short = is.short;
}

pub real_of_power : (p : List ℕ) → Powered p → IsReal p
real_of_power p is = record {
  whole = is.whole;
  fraction = is.fraction;
  exponent = is.mark ∷ is.power;
  text = is.text;
  whole_digits = is.whole_digits;
  fraction_digits = is.fraction_digits;
  exponent_is = (is.mark_is, is.power_is);
  short = is.short;
}
