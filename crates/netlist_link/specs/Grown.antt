-- Netlists to which cells are added, and when they stay well formed.
use Rattle.std.specs.Prelude.{◌≡◌, ℕ, ◌⊎◌, false, List, length, slice_get, Some, None}
use Rattle.cell_library.specs.declared.FlopKind.{FlopKind}
use Rattle.cell_library.specs.Gates.{is_three_state, flop_of, Takes}
use Rattle.netlist_model.specs.declared.Feed.TheVariants.{Net}
use Rattle.netlist_model.specs.Lists.{CellView, NetlistView, cell_at, direction}
use Rattle.netlist_model.specs.Formed.{IsNumbered, IsWellFormed}
use Rattle.netlist_model.specs.Settle.{IsDrivenOnce}
use Rattle.netlist_link.specs.Readable.{CanBeRead, IsPure}

-- own: the cell is one of the list
pub record IsOneOf (part : List CellView) (cell : CellView) : Type 0 where
  pub place : ℕ
  pub at : slice_get part place ≡ Some cell

-- own: the new netlist has the old one's library, ports and its cells under their numbers, and beside them
-- no cell but these
pub record AddsCells (old new : NetlistView) (part : List CellView) : Type 0 where
  pub library : new.library ≡ old.library
  pub ports : new.ports ≡ old.ports
  pub kept : (i : ℕ) (cell : CellView) → cell_at old i ≡ Some cell → cell_at new i ≡ Some cell
  pub either : (i : ℕ) (cell : CellView) → cell_at new i ≡ Some cell → (cell_at old i ≡ Some cell) ⊎ IsOneOf part cell

-- own: an added cell is no `bufif`, drives no port bit, reads nets that can be read, and is clocked, cleared and
-- preset by pure ones
pub record IsSoundCell (N : NetlistView) (cell : CellView) : Type 0 where
  pub takes : Takes N.library cell.kind (length cell.feeds)
  pub two_state : is_three_state cell.kind ≡ false
  pub output : (net : ℕ) → cell.output ≡ Some (record { 0 = net }) → direction N.ports net ≡ None
  pub reads : (place net : ℕ) → slice_get cell.feeds place ≡ Some (Net (record { 0 = net })) → CanBeRead N net
  pub controls : (kind : FlopKind) (place net : ℕ) → flop_of N.library cell.kind ≡ Some kind → (place ≡ 1) ⊎ (place ≡ 2)
      → slice_get cell.feeds place ≡ Some (Net (record { 0 = net })) → IsPure N net

-- own: each cell of the list is sound
abbrev pub AreSoundCells : NetlistView → List CellView → Type 0
AreSoundCells N part = (cell : CellView) → IsOneOf part cell → IsSoundCell N cell

-- own: a well-formed netlist stays so where sound cells are added, if no net gets two drivers and the
-- nets can be numbered
abbrev pub GrownIsFormed : Type 0
GrownIsFormed = (old new : NetlistView) (part : List CellView) (rank : ℕ → ℕ) → IsWellFormed old → AddsCells old new part
    → IsDrivenOnce new → IsNumbered new rank → AreSoundCells new part → IsWellFormed new
