-- Digits of numbers, and the values of digits.
use Rattle.std.proofs.Common.{◌≡◌, ℕ, ◌+◌, ◌-◌, ◌*◌, ◌/◌, ◌%◌, ◌^◌, ◌<◌, ◌≤◌, List, [], ◌∷◌, ◌++◌, Bool, true, length, sym, ap, ◌∙◌, refl, arith}
use Rattle.std.specs.Prelude.{◌==◌, ◌||◌, ◌&&◌, nat_le}
use Rattle.std.specs.List.{list_all}
use Rattle.std.specs.Fmt.{decimal}
use Rattle.std.proofs.lemmas.Fmt.{decimal_by_steps}
use Rattle.std.proofs.Math.Nat.{mul-le-mul_right, pow-succ', mul_assoc}
use Rattle.list_laws.specs.Digits.{value_after}
use Rattle.list_laws.proofs.Tests.{and_left, and_right}
use Rattle.list_laws.proofs.Lists.{push_all}

-- the value of one digit more
pub push_value : (base n : ℕ) (ds : List ℕ) (d : ℕ) → value_after base n (ds ++ d ∷ []) ≡ base * value_after base n ds + (d - 48)
push_value base n [] d = refl
push_value base n (e ∷ ds) d = push_value base (base * n + (e - 48)) ds d

-- a value of so many bits, behind a number that was read before
pub value_below : (n : ℕ) (ds : List ℕ) → list_all (λ b. b == 48 || b == 49) ds ≡ true → value_after 2 n ds + 1 ≤ (n + 1) * 2 ^ length ds
value_below n [] h = omega arith
value_below n (d ∷ ds) h =
    let bit : d - 48 ≤ 1 = digit d (and_left (d == 48 || d == 49) (list_all (λ b. b == 48 || b == 49) ds) h) in
    let rest : value_after 2 (2 * n + (d - 48)) ds + 1 ≤ (2 * n + (d - 48) + 1) * 2 ^ length ds = value_below (2 * n + (d - 48)) ds (and_right (d == 48 || d == 49) (list_all (λ b. b == 48 || b == 49) ds) h) in
    let more : (2 * n + (d - 48) + 1) * 2 ^ length ds ≤ ((n + 1) * 2) * 2 ^ length ds = mul-le-mul_right (2 ^ length ds) (omega arith) in
    let power : (n + 1) * 2 ^ length (d ∷ ds) ≡ ((n + 1) * 2) * 2 ^ length ds = ap (λ (k : ℕ). (n + 1) * k) (pow-succ' 2 (length ds)) ∙ sym (mul_assoc (n + 1) 2 (2 ^ length ds)) in
    omega arith
  where
    digit : (b : ℕ) → (b == 48 || b == 49) ≡ true → b - 48 ≤ 1
    digit b k = grind arith

-- A number in decimal.

abbrev pub is_decimal_digit : ℕ → Bool
is_decimal_digit b = nat_le 48 b && nat_le b 57

-- digits that have this value
pub record IsWrittenAs (n : ℕ) (ds : List ℕ) : Type 0 where
  pub digits : list_all is_decimal_digit ds ≡ true
  pub value : value_after 10 0 ds ≡ n

digit_byte : (d : ℕ) → d < 10 → is_decimal_digit (48 + d) ≡ true
digit_byte d low = grind arith

one_digit : (n : ℕ) → n < 10 → IsWrittenAs n ((48 + n) ∷ [])
one_digit n low = record { digits = ap (λ (x : Bool). x && true) (digit_byte n low); value = omega arith }

more_digits : (n : ℕ) (ds : List ℕ) → 10 ≤ n → IsWrittenAs (n / 10) ds → IsWrittenAs n (ds ++ (48 + n % 10) ∷ [])
more_digits n ds large before = record {
  digits = push_all is_decimal_digit ds (48 + n % 10) before.digits (digit_byte (n % 10) (omega arith));
  value = push_value 10 0 ds (48 + n % 10) ∙ (let e : value_after 10 0 ds ≡ n / 10 = before.value in omega arith);
}

pub decimal_digits : (n : ℕ) → n < 2 ^ 64 → IsWrittenAs n (decimal n)
decimal_digits n low = decimal_by_steps IsWrittenAs one_digit more_digits n low
