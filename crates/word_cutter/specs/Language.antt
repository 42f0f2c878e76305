use Rattle.std.specs.Prelude.{◌≡◌, ℕ, ◌+◌, ◌<◌, ◌≤◌, List, [], ◌∷◌, ◌++◌, length, take, Option, Some, option_and_then}

-- A language whose texts are cut into words, and the machine that cuts them (own).

-- some text begins with these bytes
abbrev pub Begun : {W : Type 0} → (List ℕ → List W → Type 0) → List ℕ → Type 0
Begun {W} WordsOf bytes = (more : List ℕ) × (words : List W) × WordsOf (bytes ++ more) words

-- the greatest place up to which some text begins as these bytes do
pub record Place {W : Type 0} (WordsOf : List ℕ → List W → Type 0) (bytes : List ℕ) (place : ℕ) : Type 0 where
  pub within : place ≤ length bytes
  pub begins : Begun WordsOf (take place bytes)
  pub greatest : (q : ℕ) → place < q → q ≤ length bytes → Begun WordsOf (take q bytes) → ⊥

-- what the machine gives for a text that goes on with these bytes and ends
abbrev pub outcome : {S W : Type 0} → (ℕ → S → ℕ → Option S) → (S → Option W) → ℕ → S → List ℕ → Option W
outcome step end at s [] = end s
outcome step end at s (b ∷ bytes) = option_and_then (λ t. outcome step end (at + 1) t bytes) (step at s b)

-- The machine cuts the language: it gives the words of each text, what it gives are words of the text, and every state
-- comes to an end.
pub record Cuts {S W : Type 0} (step : ℕ → S → ℕ → Option S) (end : S → Option (List W)) (start : S) (WordsOf : List ℕ → List W → Type 0) : Type 0 where
  pub spelled : (bytes : List ℕ) (words : List W) → WordsOf bytes words → outcome step end 0 start bytes ≡ Some words
  pub sound : (bytes : List ℕ) (words : List W) → outcome step end 0 start bytes ≡ Some words → WordsOf bytes words
  pub closes : (at : ℕ) (s : S) → (more : List ℕ) × (words : List W) × (outcome step end at s more ≡ Some words)
