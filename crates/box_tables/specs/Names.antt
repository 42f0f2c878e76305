-- own: what tables of borrowed names answer, by the bytes of the names.
use Rattle.std.specs.Prelude.{◌≡◌, ℕ, List, count_by, position, unwrap_or}
use Rattle.std.specs.Borrow.{Bor}
use Rattle.std.specs.Map.{lookup}
use Rattle.std.specs.Str.{bytes_eq}

-- the place where each name first stands is found under it
abbrev pub FindsNames : List (List ℕ) → List (Bor (List ℕ) × ℕ) → Type 0
FindsNames names entries = (name : List ℕ) → lookup (λ (k : Bor (List ℕ)). bytes_eq name k.now) entries ≡ position (bytes_eq name) names

-- the number under a name; 0 where there is none
abbrev pub count_of : List (Bor (List ℕ) × ℕ) → List ℕ → ℕ
count_of entries name = unwrap_or (lookup (λ (k : Bor (List ℕ)). bytes_eq name k.now) entries) 0

-- how often each name stands is found under it
abbrev pub CountsNames : List (List ℕ) → List (Bor (List ℕ) × ℕ) → Type 0
CountsNames names entries = (name : List ℕ) → count_of entries name ≡ count_by (bytes_eq name) names
