use Rattle.std.specs.Prelude.{◌≡◌, ℕ, ◌+◌, Bool, ◌&&◌, nat_le, List, map, if◌then◌else◌}
use Rattle.std.specs.Str.{bytes_eq}

-- Identifiers are compared without regard to ASCII case (VHDL-93, lexical elements).

-- a letter in lower case, and any other byte as it is
abbrev pub lower : ℕ → ℕ
lower b = if nat_le 65 b && nat_le b 90 then b + 32 else b

-- the two are one identifier
abbrev pub same_name : List ℕ → List ℕ → Type 0
same_name a b = map lower a ≡ map lower b

-- whether they are
abbrev pub is_same_name : List ℕ → List ℕ → Bool
is_same_name a b = bytes_eq (map lower a) (map lower b)
