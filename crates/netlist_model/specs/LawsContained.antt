-- A contained cell means in a netlist what it means by itself.
use Rattle.std.specs.Prelude.{◌≡◌, ℕ, ◌<◌, List, ◌++◌, slice_get, Some, IsSome}
use Rattle.netlist_model.specs.Lists.{CellView, NetlistView, cell_at, cell_count}
use Rattle.netlist_model.specs.Contained.{Has, HasCells, IsDense}

-- own: each cell of a list that is contained is contained, by its place
abbrev pub ContainedByPlace : Type 0
ContainedByPlace = (N : NetlistView) (cells : List CellView) → HasCells N cells → (k : ℕ) (cell : CellView) → slice_get cells k ≡ Some cell → Has N cell

-- own: what is contained one after the other is contained, and the other way round
pub record HasBoth (N : NetlistView) (front back : List CellView) : Type 0 where
  pub parts : HasCells N (front ++ back) → HasCells N front × HasCells N back
  pub whole : HasCells N front → HasCells N back → HasCells N (front ++ back)

abbrev pub ContainedParts : Type 0
ContainedParts = (N : NetlistView) (front back : List CellView) → HasBoth N front back

-- own: in a netlist without gaps exactly the numbers below the count of cells are live
abbrev pub DenseNumbers : Type 0
DenseNumbers = (N : NetlistView) → IsDense N → (i : ℕ) → IsSome (cell_at N i) → i < cell_count N
