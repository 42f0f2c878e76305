-- own: names that came before.
use Rattle.std.specs.Prelude.{ℕ, Bool, List, [], ◌∷◌, ◌++◌, map, Option, Some, None, if◌then◌else◌}
use Rattle.std.specs.Borrow.{Bor}
use Rattle.std.specs.List.{list_any}
use Rattle.std.specs.Str.{bytes_eq}
use Rattle.indexmap.specs.IndexSet.{IndexSet}

-- a name stands in the list
abbrev pub has_name : List (List ℕ) → List ℕ → Bool
has_name names name = list_any (bytes_eq name) names

-- the first name that came before, or in `before`
abbrev pub repeated_after : List (List ℕ) → List (List ℕ) → Option (List ℕ)
repeated_after before [] = None
repeated_after before (name ∷ names) = if has_name before name then Some name else repeated_after (before ++ name ∷ []) names

-- the first name that came before in the list
abbrev pub repeated : List (List ℕ) → Option (List ℕ)
repeated names = repeated_after [] names

-- the bytes of borrowed names
abbrev pub texts : List (Bor (List ℕ)) → List (List ℕ)
texts names = map (λ (name : Bor (List ℕ)). name.now) names

abbrev pub bytes_of : Option (Bor (List ℕ)) → Option (List ℕ)
bytes_of None = None
bytes_of (Some name) = Some name.now

-- the names in a set, in the order in which they came
abbrev pub seen : {S : Type 0} → IndexSet (Bor (List ℕ)) S → List (List ℕ)
seen table = texts table.keys
