-- Two netlists that differ in nothing but numbers without a cell.
-- Own.
use Rattle.std.specs.Prelude.{◌≡◌, ℕ, List}
use Rattle.netlist_model.specs.Lists.{NetlistView, cell_at}
use Rattle.netlist_link.specs.WellNamed.{IsWellNamed}

-- own: the same library, ports and nets, and the same live cell under each number
pub record IsSameNetlist (one other : NetlistView) : Type 0 where
  pub library : one.library ≡ other.library
  pub ports : one.ports ≡ other.ports
  pub nets : one.nets ≡ other.nets
  pub cells : (number : ℕ) → cell_at one number ≡ cell_at other number

-- own: so one is well named where the other is
abbrev pub SameIsNamed : Type 0
SameIsNamed = (table : List (List ℕ)) (one other : NetlistView) → IsSameNetlist one other → IsWellNamed table other → IsWellNamed table one
