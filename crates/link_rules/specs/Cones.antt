-- The nets in the cones of clocks, clears and presets.
use Rattle.std.specs.Prelude.{◌≡◌, ℕ, ◌⊎◌, Bool, true, List, slice_get, Some}
use Rattle.cell_library.specs.declared.listed.ListedCell.{ListedCell}
use Rattle.cell_library.specs.Sound.{IsLibrary}
use Rattle.netlist_model.specs.declared.Feed.TheVariants.{Net}
use Rattle.verilog_tree.specs.declared.tree.Module.{Module}
use Rattle.link_model.specs.Nets.{NamedNet, declared_nets, nets_in}
use Rattle.link_model.specs.Cells.{NamedCell}
use Rattle.link_model.specs.Faults.{is_inout, cells_in}
use Rattle.link_model.specs.Late.{InCone, IsDerived, HasNoDerived}

-- own: a flip-flop reads the net at this place: D is 0, CK is 1, RN or SN is 2
pub record FlopReads (cells : List NamedCell) (place net : ℕ) : Type 0 where
  pub number : ℕ
  pub cell : NamedCell
  pub there : slice_get cells number ≡ Some cell
  pub flop : cell.keeps ≡ true
  pub operand : slice_get cell.feeds place ≡ Some (Net (record { 0 = net }))

-- own: the net stands in the cone of a clock, clear or preset operand
pub record IsControlNet (cells : List NamedCell) (net : ℕ) : Type 0 where
  pub root : ℕ
  pub operand : FlopReads cells 1 root ⊎ FlopReads cells 2 root
  pub cone : InCone cells root net

-- own: the net is that of an inout's bit
abbrev pub is_inout_net : NamedNet → Bool
is_inout_net net = is_inout net.dir

-- own: where no link of a clock, clear or preset is derived, no such operand of a cell is
abbrev pub ControlsAreLinks : Type 0
ControlsAreLinks = (library : List ListedCell) (m : Module) → IsLibrary library → HasNoDerived library m → (root : ℕ) → FlopReads (cells_in library m) 1 root ⊎ FlopReads (cells_in library m) 2 root
    → IsDerived (nets_in (declared_nets m)) (cells_in library m) root → ⊥
