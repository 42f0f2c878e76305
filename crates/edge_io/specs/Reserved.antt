use Rattle.std.specs.Prelude.{ℕ, List}

-- own: bytes, and how many there may be
pub record RoomedBytes : Type 0 where
  pub room : ℕ
  pub bytes : List ℕ
