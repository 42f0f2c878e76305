-- A list of names, in bytes, each under the number of its place.
use Rattle.std.specs.Prelude.{◌≡◌, ℕ, List, [], ◌∷◌, ◌++◌, position, slice_get, Option, Some, if◌then◌else◌}
use Rattle.std.specs.List.{list_any}
use Rattle.std.specs.Str.{bytes_eq}

-- own: the number of a name, which is the first place where it stands
abbrev pub number_of : List ℕ → List (List ℕ) → Option ℕ
number_of name names = position (bytes_eq name) names

-- own: the names with this one, at the end unless it is there
abbrev pub with_name : List ℕ → List (List ℕ) → List (List ℕ)
with_name name names = if list_any (bytes_eq name) names then names else names ++ name ∷ []

-- own: no name stands twice
abbrev pub IsOnce : List (List ℕ) → Type 0
IsOnce names = (i j : ℕ) (name : List ℕ) → slice_get names i ≡ Some name → slice_get names j ≡ Some name → i ≡ j
