-- The turns of cells: each cell's comes after those of the cells on which it waits.
use Rattle.std.specs.Prelude.{◌≡◌, ℕ, ◌<◌, ◌⊎◌, false, List, Some}
use Rattle.cell_library.specs.declared.Kind.{Kind}
use Rattle.cell_library.specs.declared.listed.ListedCell.{ListedCell}
use Rattle.cell_library.specs.Gates.{is_flop}
use Rattle.netlist_model.specs.Lists.{CellView, NetlistView, cell_at, Drives, Reads}

-- own: a gate waits on each operand; a flip-flop on its clock, which is 1, and its clear or preset, which is 2, and not
-- on D, which is 0
abbrev pub IsTrigger : List ListedCell → Kind → ℕ → Type 0
IsTrigger library kind place = (is_flop library kind ≡ false) ⊎ ((place ≡ 1) ⊎ (place ≡ 2))

-- own: the cell with this number waits on the net
pub record WaitsOn (N : NetlistView) (number net : ℕ) : Type 0 where
  pub cell : CellView
  pub place : ℕ
  pub reads : Reads N number cell place net
  pub trigger : IsTrigger N.library cell.kind place

-- own: no two cells have one turn, and each waits only on cells with earlier ones
pub record AreTurns (N : NetlistView) (turn : ℕ → ℕ) : Type 0 where
  pub after : (i j net : ℕ) (driver : CellView) → WaitsOn N i net → Drives N j driver net → turn j < turn i
  pub apart : (i j : ℕ) (cell other : CellView) → cell_at N i ≡ Some cell → cell_at N j ≡ Some other → turn i ≡ turn j → i ≡ j
