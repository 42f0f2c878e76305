-- What the places end as, where a `&mut` to one of their values is returned.
use Rattle.std.specs.Prelude.{ℕ, Some, slice_set}
use Rattle.std.specs.Borrow.{Lends, Fml, RattleType, MutBor}
use Rattle.linked_cells.specs.PlacesLaws.{PlacesView}
use Rattle.linked_cells.specs.contracts.places.Places.{the_row}

-- once the borrow r ends, the number has the last value written through r
abbrev pub lends_place : (T : RattleType) → MutBor (PlacesView T.Denot) → ℕ → MutBor T.Denot → Fml
lends_place T p number r = Lends (the_row T) T p r (λ w. record p.now { items = slice_set p.now.items number (Some w) })
