use Rattle.std.proofs.Common.{◌≡◌, ℕ, List, zero, suc, ◌+◌, ◌-◌, ◌/◌, ◌%◌, ◌<◌, [], ◌∷◌, ◌++◌, arith, ap, sym}
use Rattle.std.proofs.lemmas.List.{append-nil}
use Rattle.bsdl_device.specs.Canonical.{bits_text}

pub no_bits_text : (text : List ℕ) (len value : ℕ) → len ≡ 0 → text ≡ text ++ bits_text len value
unfolding bits_text
no_bits_text text zero value none = sym (append-nil text)
no_bits_text text (suc len) value none = absurd (omega (arith, none))

pub bits_text_step : (len value : ℕ) → 0 < len → bits_text len value ≡ bits_text (len - 1) (value / 2) ++ (48 + value % 2) ∷ []
unfolding bits_text
bits_text_step zero value more = absurd (omega arith)
bits_text_step (suc len) value more =
    let shorter : len ≡ suc len - 1 = omega arith in
    ap (λ (n : ℕ). bits_text n (value / 2) ++ (48 + value % 2) ∷ []) shorter
