-- Marks on numbers, in a list of tests.
use Rattle.std.specs.Prelude.{◌≡◌, ℕ, List, [], ◌∷◌, Bool, true, false, slice_index_or, slice_set}

-- a number is marked
abbrev pub Marked : List Bool → ℕ → Type 0
Marked marks v = slice_index_or marks v false ≡ true

-- the marks, with these numbers marked too
abbrev pub mark_all : List ℕ → List Bool → List Bool
mark_all [] marks = marks
mark_all (v ∷ vertices) marks = mark_all vertices (slice_set marks v true)
