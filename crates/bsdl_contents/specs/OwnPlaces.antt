-- own: where the entries of the design's own registers begin.
use Rattle.std.specs.Prelude.{ℕ, ◌+◌, ◌==◌, List, [], ◌∷◌, Option, Some, None, if◌then◌else◌}

-- the place of the last comma before the first `[`, counted from here; a comma before these bytes, if there was one
abbrev pub place_from : Option ℕ → ℕ → List ℕ → Option ℕ
place_from comma at [] = None
place_from comma at (b ∷ bytes) = if b == 91 then comma else place_from (if b == 44 then Some at else comma) (at + 1) bytes
