-- Numbers, and the test by which they are compared.
use Rattle.std.proofs.Common.{◌≡◌, ℕ, ◌^◌, ◌<◌, ◌≤◌, ◌==◌, true, false, refl, ◌∙◌, arith, inl, inr, ◌⊎◌}
use Rattle.std.proofs.Math.Nat.{pow-le-pow_right}
use Rattle.std.proofs.lemmas.Bool.Decides.{eqb_tells, leb_tells}

pub eqb_same : (a : ℕ) → a == a ≡ true
eqb_same a = elim (eqb_tells a a) [ inl e ↦ e.0 | inr e ↦ absurd (e.1 refl) ]

pub eqb_less : (a b : ℕ) → a < b → a == b ≡ false
eqb_less a b h = elim (eqb_tells a b) [ inl e ↦ let same = e.1 in absurd (omega arith) | inr e ↦ e.0 ]

-- a number of fewer than nine digits has room for one more
pub few_digits : (count : ℕ) → count < 9 → 10 ^ count ≤ 10 ^ 8
few_digits count few = pow-le-pow_right {n = 10} (omega arith) {i = count} {j = 8} (omega arith)

pub eqb-sym : (a b : ℕ) → (a == b) ≡ (b == a)
eqb-sym a b = grind arith

pub below_or_not : (i n : ℕ) → (i < n) ⊎ (n ≤ i)
below_or_not i n = elim (leb_tells n i) [ inl e ↦ inr e.1 | inr e ↦ inl e.1 ]

pub eqb_more : (a b : ℕ) → b < a → a == b ≡ false
eqb_more a b h = eqb-sym a b ∙ eqb_less b a h
