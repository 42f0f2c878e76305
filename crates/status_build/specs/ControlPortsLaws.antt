-- Which control ports a netlist has that another one grew to.
-- IEEE Std 1149.1-2001: test clock input, test reset input; the laws are own.
use Rattle.std.specs.Prelude.{◌≡◌, ℕ, ◌⊎◌, false, slice_get, Some, None}
use Rattle.cell_library.specs.declared.FlopKind.{FlopKind}
use Rattle.cell_library.specs.Gates.{flop_of, is_flop}
use Rattle.netlist_model.specs.declared.Feed.TheVariants.{Net}
use Rattle.netlist_model.specs.Lists.{CellView, NetlistView, cell_at}
use Rattle.netlist_model.specs.Formed.{IsWellFormed}
use Rattle.wrapped_chip.specs.Legal.{IsTapControl, HasControls}
use Rattle.status_build.specs.ReconnectedLaws.{ReadsFlop}

-- own: if the cell is a flip-flop, TCK and TRST alone clock, clear and preset it
pub record IsTapClocked (M N : NetlistView) (cell : CellView) : Type 0 where
  pub controls : (kind : FlopKind) (place net : ℕ) → flop_of M.library cell.kind ≡ Some kind → (place ≡ 1) ⊎ (place ≡ 2)
      → slice_get cell.feeds place ≡ Some (Net (record { 0 = net })) → IsTapControl M N net

-- own: a gate that read a flip-flop, and so stood in no cone of a clock, clear or preset, reads other nets
pub record IsRewired (old new : NetlistView) (number : ℕ) (cell : CellView) : Type 0 where
  pub gate : is_flop old.library cell.kind ≡ false
  pub flop : ReadsFlop old cell
  pub other : CellView
  pub live : cell_at new number ≡ Some other
  pub kind : other.kind ≡ cell.kind
  pub output : other.output ≡ cell.output

-- own: the new netlist has the old one's library, ports and cells under their numbers, but that such gates read other
-- nets, and beside them cells of which TCK and TRST alone control the flip-flops
pub record Grows (old new N : NetlistView) : Type 0 where
  pub library : new.library ≡ old.library
  pub ports : new.ports ≡ old.ports
  pub kept : (i : ℕ) (cell : CellView) → cell_at old i ≡ Some cell → (cell_at new i ≡ Some cell) ⊎ IsRewired old new i cell
  pub added : (i : ℕ) (cell : CellView) → cell_at old i ≡ None → cell_at new i ≡ Some cell → IsTapClocked new N cell

-- own: so its control ports stay the core's, TCK and TRST
abbrev pub GrownHasControls : Type 0
GrownHasControls = (old new N : NetlistView) → IsWellFormed old → IsWellFormed new → Grows old new N → HasControls old N → HasControls new N
