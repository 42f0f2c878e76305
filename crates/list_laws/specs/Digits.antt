-- The value of digits.
use Rattle.std.specs.Prelude.{ℕ, ◌+◌, ◌-◌, ◌*◌, List, [], ◌∷◌}

-- the value of digits in a base, after a value that was read before
abbrev pub value_after : ℕ → ℕ → List ℕ → ℕ
value_after base n [] = n
value_after base n (d ∷ ds) = value_after base (base * n + (d - 48)) ds
