use Rattle.std.proofs.Common.{◌≡◌, ℕ, ◌+◌, ◌-◌, ◌*◌, List, [], ◌∷◌, ◌++◌, refl}
use Rattle.verilog_lexicon.specs.Pieces.{value_from}

-- one digit more
pub value_push : (n : ℕ) (xs : List ℕ) (d : ℕ) → value_from n (xs ++ d ∷ []) ≡ 10 * value_from n xs + (d - 48)
value_push n [] d = refl
value_push n (x ∷ xs) d = value_push (10 * n + (x - 48)) xs d
