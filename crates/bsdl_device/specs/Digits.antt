use Rattle.std.specs.Prelude.{ℕ, Bool, ◌==◌, ◌||◌}

-- own: the digit 0 or 1
abbrev pub is_bit : ℕ → Bool
is_bit b = b == 48 || b == 49
