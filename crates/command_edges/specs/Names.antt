-- The names of the files that a command reads or writes. Own.
use Rattle.std.specs.Prelude.{◌≡◌, ℕ, ◌⊎◌, List, [], ◌∷◌, map}
use Rattle.std.specs.Borrow.{Bor}

-- the bytes of borrowed names
abbrev pub names_of : List (Bor (List ℕ)) → List (List ℕ)
names_of names = map (λ (name : Bor (List ℕ)). name.now) names

-- the name is one of these
abbrev pub IsOneOf : List ℕ → List (List ℕ) → Type 0
IsOneOf name [] = ⊥
IsOneOf name (other ∷ others) = (name ≡ other) ⊎ IsOneOf name others

-- no name stands twice
abbrev pub StandOnce : List (List ℕ) → Type 0
StandOnce [] = Unit {0}
StandOnce (name ∷ names) = (IsOneOf name names → ⊥) × StandOnce names
