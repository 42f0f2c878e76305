-- What is needed to put the core behind its boundary cells; fitting gives it.
-- IEEE Std 1149.1-2001: boundary-scan register; that outputs get a driver for HIGHZ, and the numbers of nets, are own.
use Rattle.std.specs.Prelude.{◌≡◌, ◌≢◌, ℕ, ◌+◌, ◌*◌, ◌^◌, ◌<◌, ◌≤◌, List, All, map, length, slice_get, Some, MatchOption, ⊤}
use Rattle.std.specs.Option.{option_map}
use Rattle.cell_library.specs.declared.codes.Function.TheVariants as function
use Rattle.netlist_model.specs.declared.NetId.{NetId}
use Rattle.netlist_model.specs.declared.Dir.TheVariants.{Input}
use Rattle.netlist_model.specs.Lists.{CellView, NetlistView, bit_net, direction, Drives, IsUndriven}
use Rattle.netlist_model.specs.Formed.{IsDriven}
use Rattle.stitched_netlist.specs.plan_fitting.declared.fitted.FitRow.{FitRow}
use Rattle.stitched_netlist.specs.declared.model.Site.{Site}
use Rattle.stitched_netlist.specs.declared.model.Site.TheVariants as site
use Rattle.stitched_netlist.specs.Sites.{Boundary, row_net, site_of, sides_of}
use Rattle.stitched_netlist.specs.Sides.{core_cell}
use Rattle.core_sides.specs.Pins.{ArePinsThere, AreFew}

-- The core.

-- the netlist with its cells behind those of the boundary
abbrev pub with_core_behind : Boundary → NetlistView → NetlistView
with_core_behind B N = record N { cells = map (option_map (core_cell B)) N.cells }

-- What drives the net of a row.

-- a cell with two operands drives the net, which is no input's
pub record HasDriver (N : NetlistView) (net : ℕ) : Type 0 where
  pub number : ℕ
  pub cell : CellView
  pub drives : Drives N number cell net
  -- its data, and its control
  pub operands : length cell.feeds ≡ 2
  pub inside : direction N.ports net ≢ Some Input

-- at an input that moves no cell, at an output that is always driven some cell, and else a three-state driver
abbrev pub IsDrivenAt : NetlistView → Site → ℕ → Type 0
IsDrivenAt N site.Observed net = ⊤
IsDrivenAt N site.Input net = IsUndriven N net
IsDrivenAt N site.Output net = IsDriven N net
IsDrivenAt N site.AddedDriver net = IsDriven N net
IsDrivenAt N site.Driver net = HasDriver N net
IsDrivenAt N site.Inout net = HasDriver N net
IsDrivenAt N site.Control net = ⊤

-- The rows.

-- the row with this number is a control cell
pub record IsControlAt (rows : List FitRow) (number : ℕ) : Type 0 where
  pub row : FitRow
  pub there : slice_get rows number ≡ Some row
  pub does : row.function ≡ function.Control

-- the control cell that the row names is there
abbrev pub HasControl : List FitRow → FitRow → Type 0
HasControl rows row = MatchOption row.control ⊤ (IsControlAt rows)

-- the netlist's core can stand behind the cells of these rows, where the nets between it and them begin at `first`
pub record CanStandBehind (N : NetlistView) (rows : List FitRow) (first : ℕ) : Type 0 where
  -- the bit of each row is there, and there are as many rows as there may be
  pub pins : ArePinsThere N.ports rows
  pub few : AreFew rows
  -- no two rows stand at one net
  pub apart : (j k : ℕ) (one other : FitRow) (net : NetId) → slice_get rows j ≡ Some one → slice_get rows k ≡ Some other
      → row_net N.ports one ≡ Some net → row_net N.ports other ≡ Some net → j ≡ k
  -- the net of each is driven as its site wants it
  pub driven : (k : ℕ) (row : FitRow) (net : NetId) → slice_get rows k ≡ Some row → row_net N.ports row ≡ Some net
      → IsDrivenAt N (site_of N.ports row) net.0
  -- the control cell that a row names is there
  pub controls : All (HasControl rows) rows
  -- the nets between are there, and they can be counted
  pub sides : first + sides_of N.ports rows ≤ length N.nets
  pub fits : first + 2 * length rows < 2 ^ 32
  -- they stand behind the nets of ports, and behind those that cells drive
  pub ports_before : (port bit : ℕ) (net : NetId) → bit_net N port bit ≡ Some net → net.0 < first
  pub outputs_before : (i : ℕ) (cell : CellView) (net : ℕ) → Drives N i cell net → net < first
