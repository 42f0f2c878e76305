-- Own: numbers of places that no step raises.
use Rattle.std.specs.Prelude.{ℕ, ◌≤◌, List, slice_index_or}
use Rattle.hier_counts.specs.Graph.{row, IsIn}

abbrev pub number : List ℕ → ℕ → ℕ
number numbers place = slice_index_or numbers place 0

abbrev pub NeverRises : List (List ℕ) → List ℕ → Type 0
NeverRises graph numbers = (v w : ℕ) → IsIn w (row graph v) → number numbers w ≤ number numbers v
