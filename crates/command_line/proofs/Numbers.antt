-- Numbers of 1 to 4 digits.
use Rattle.std.proofs.Common.{ℕ, ◌<◌, ◌≤◌, ◌-◌, List, [], ◌∷◌, length, IsTrue, arith, refl}
use Rattle.std.specs.List.{list_all}
use Rattle.bsdl_lexicon.specs.Bytes.{is_digit}
use Rattle.bsdl_device.specs.Runs.{value_after}
use Rattle.command_line.specs.Forms.{IsNumeral}

digit_small : (d : ℕ) → IsTrue (is_digit d) → d - 48 ≤ 9
digit_small d is = grind arith

first_is : (d : ℕ) (ds : List ℕ) → IsTrue (list_all is_digit (d ∷ ds)) → IsTrue (is_digit d)
first_is d ds all = grind arith

rest_are : (d : ℕ) (ds : List ℕ) → IsTrue (list_all is_digit (d ∷ ds)) → IsTrue (list_all is_digit ds)
rest_are d ds all = grind arith

first_small : (d : ℕ) (ds : List ℕ) → IsTrue (list_all is_digit (d ∷ ds)) → d - 48 ≤ 9
first_small d ds all = digit_small d (first_is d ds all)

numeral_small : (digits : List ℕ) (number : ℕ) → IsNumeral digits number → number < 10000
numeral_small [] number n = absurd (omega (arith, n.some))
numeral_small (a ∷ []) number n = let one = first_small a [] n.are_digits in omega (arith, n.value, one)
numeral_small (a ∷ b ∷ []) number n =
    let one = first_small a (b ∷ []) n.are_digits in
    let two = first_small b [] (rest_are a (b ∷ []) n.are_digits) in
    omega (arith, n.value, one, two)
numeral_small (a ∷ b ∷ c ∷ []) number n =
    let one = first_small a (b ∷ c ∷ []) n.are_digits in
    let later = rest_are a (b ∷ c ∷ []) n.are_digits in
    let two = first_small b (c ∷ []) later in
    let three = first_small c [] (rest_are b (c ∷ []) later) in
    omega (arith, n.value, one, two, three)
numeral_small (a ∷ b ∷ c ∷ d ∷ []) number n =
    let one = first_small a (b ∷ c ∷ d ∷ []) n.are_digits in
    let later = rest_are a (b ∷ c ∷ d ∷ []) n.are_digits in
    let two = first_small b (c ∷ d ∷ []) later in
    let last = rest_are b (c ∷ d ∷ []) later in
    let three = first_small c (d ∷ []) last in
    let four = first_small d [] (rest_are c (d ∷ []) last) in
    omega (arith, n.value, one, two, three, four)
numeral_small (a ∷ b ∷ c ∷ d ∷ e ∷ more) number n = absurd (omega (arith, n.few))

pub value_small : (digits : List ℕ) → length digits ≤ 4 → IsTrue (list_all is_digit digits) → value_after 10 0 digits < 10000
value_small [] few are = omega arith
value_small (d ∷ ds) few are = numeral_small (d ∷ ds) (value_after 10 0 (d ∷ ds)) (record { some = omega arith; few = few; are_digits = are; value = refl })
