-- Own: a search: the marks on places, and the places that were found, in their order.
use Rattle.std.specs.Prelude.{ℕ, Bool, true, false, List, [], ◌∷◌, ◌++◌, slice_index_or, slice_set, if◌then◌else◌}
use Rattle.hier_counts.specs.declared.reach.Search as code

pub record Seen : Type 0 where
  pub marks : List Bool
  pub found : List ℕ

abbrev pub seen_in : code.Search → Seen
seen_in s = record { marks = s.marks.items; found = s.found.items }

-- a place is marked, and found unless it was marked
abbrev pub with_place : ℕ → Seen → Seen
with_place v s = if slice_index_or s.marks v false then s else record { marks = slice_set s.marks v true; found = s.found ++ v ∷ [] }

abbrev pub with_places : List ℕ → Seen → Seen
with_places [] s = s
with_places (v ∷ vs) s = with_places vs (with_place v s)
