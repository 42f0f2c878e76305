-- What holds of the netlist with the test logic built in.
-- IEEE Std 1149.1-2001: test logic architecture, boundary-scan register; the statements are own.
use Rattle.std.specs.Prelude.{◌≡◌, ℕ, suc, ◌+◌, ◌<◌, false, ◌++◌, length, slice_get, Some, None, option_and_then}
use Rattle.netlist_model.specs.declared.NetId.{NetId}
use Rattle.netlist_model.specs.Lists.{CellView, NetlistView, cell_at, cell_count}
use Rattle.netlist_model.specs.Contained.{HasCells, IsDense}
use Rattle.netlist_model.specs.Nested.{IsNested}
use Rattle.surrounded_core.specs.Rows.{row_cells}
use Rattle.plan_fitting.specs.declared.fitted.FitRow.{FitRow}
use Rattle.plan_fitting.specs.declared.fitted.Fitted.{Fitted}
use Rattle.stitched_netlist.specs.declared.model.TapNames.{TapNames}
use Rattle.stitched_netlist.specs.Keeps.{Keeps}
use Rattle.stitched_netlist.specs.Sides.{moves, core_side, feeds_behind, core_cell}
use Rattle.stitched_netlist.specs.ModelLogic.{bypass_at, controller_part, instruction_part, bypass_part, ident_part}
use Rattle.stitched_netlist.specs.Stitched.{tap_ports, boundary_at, first_net, tdo_part_by, stitched_cells_by, stitched}
use Rattle.stitched_netlist.specs.PlacesLaws.{port_of, scan_of, instruction_number, bypass_number, ident_number, tdo_number, row_first, row_side, row_number, row_next, boundary_row, added_drivers}

-- own: of a netlist without gaps it has the ports, and each cell by its number, with its kind and its name
abbrev pub StitchedKeeps : Type 0
StitchedKeeps = (N : NetlistView) (names : TapNames) (f : Fitted) → IsDense N → Keeps N (stitched N names f) (tap_ports names (port_of N))

-- own: the gates of row k of the boundary register are there, as those of a row of its kind, and the driver that
-- is added behind it
pub record HoldsRow (M N : NetlistView) (f : Fitted) (k : ℕ) (row : FitRow) : Type 0 where
  pub gates : HasCells M (row_cells (boundary_row (boundary_at N f) (row_side N f k) row) (row_first N f k) (row_number N f k) (scan_of N f) (row_next N f k))
  pub driver : HasCells M
      (added_drivers (boundary_at N f)
      (row_number N f k + length (row_cells (boundary_row (boundary_at N f) (row_side N f k) row) (row_first N f k) (row_number N f k) (scan_of N f) (row_next N f k)))
      (row_side N f k) row)

-- own: the cells of each part are there, on their nets; TDO's take this net for the bit of the bypass register
pub record HoldsPartsBy (M N : NetlistView) (f : Fitted) (shown : NetId) : Type 0 where
  pub controller : HasCells M (controller_part (first_net N f) (port_of N) (cell_count N))
  pub instruction : HasCells M (instruction_part (first_net N f) (port_of N) f (instruction_number N f))
  pub bypass : HasCells M (bypass_part (first_net N f) (port_of N) f (bypass_number N f))
  pub ident : HasCells M (ident_part (first_net N f) (port_of N) f (ident_number N f))
  pub rows : (k : ℕ) (row : FitRow) → slice_get f.rows k ≡ Some row → HoldsRow M N f k row
  pub tdo : HasCells M (tdo_part_by shown (boundary_at N f) (first_net N f) (port_of N) f (tdo_number N f))
  -- the next bit of a row is the first net of the row after it; that of the last row is TDI
  pub next : (k : ℕ) (row : FitRow) → slice_get f.rows (suc k) ≡ Some row → row_next N f k ≡ record { 0 = row_first N f (suc k) }
  pub last : (k : ℕ) → slice_get f.rows (suc k) ≡ None → row_next N f k ≡ (port_of N).tdi

-- own: and here that bit itself
abbrev pub HoldsParts : NetlistView → NetlistView → Fitted → Type 0
HoldsParts M N f = HoldsPartsBy M N f (bypass_at (first_net N f) f)

abbrev pub StitchedHoldsParts : Type 0
StitchedHoldsParts = (N : NetlistView) (names : TapNames) (f : Fitted) → HoldsParts (stitched N names f) N f

-- own: the core stands inside, each cell under its number, by the nets on the core's side
pub record IsInside (M N : NetlistView) (f : Fitted) : Type 0 where
  pub stands : (i : ℕ) (cell : CellView) → cell_at N i ≡ Some cell → cell_at M i ≡ Some (core_cell (boundary_at N f) cell)
  -- a cell with operands of its own, as each is but the driver of an output or an inout with a control cell
  pub nested : (i : ℕ) (cell : CellView) → cell_at N i ≡ Some cell → option_and_then (feeds_behind (boundary_at N f)) cell.output ≡ None
      → IsNested M (core_side (boundary_at N f)) i cell
  -- no two nets of the core become one
  pub once : (a b : ℕ) → a < length N.nets → b < length N.nets → core_side (boundary_at N f) a ≡ core_side (boundary_at N f) b → a ≡ b
  -- a net that no row moves stays
  pub stays : (net : ℕ) → ((k : ℕ) (row : FitRow) → slice_get f.rows k ≡ Some row → moves N.ports net row ≡ false) → core_side (boundary_at N f) net ≡ net

-- own: so it is of a netlist without gaps
abbrev pub StitchedHoldsTheCore : Type 0
StitchedHoldsTheCore = (N : NetlistView) (names : TapNames) (f : Fitted) → IsDense N → IsInside (stitched N names f) N f

-- own: M is a netlist into which the test logic is built: it has N's library, the ports, the core behind its boundary
-- cells, and each part
pub record HasBuiltIn (M N : NetlistView) (names : TapNames) (f : Fitted) (shown : NetId) : Type 0 where
  pub library : M.library ≡ N.library
  pub ports : M.ports ≡ N.ports ++ tap_ports names (port_of N)
  pub core : IsInside M N f
  pub parts : HoldsPartsBy M N f shown

-- own: M has the stitched netlist's library, its ports and, under their numbers, its cells, but that TDO's take this
-- net for the bit of the bypass register; whatever else M holds is free
pub record ExtendsStitched (M N : NetlistView) (names : TapNames) (f : Fitted) (shown : NetId) : Type 0 where
  pub library : M.library ≡ N.library
  pub ports : M.ports ≡ N.ports ++ tap_ports names (port_of N)
  pub cells : (k : ℕ) (cell : CellView) → slice_get (stitched_cells_by shown N f) k ≡ Some cell → cell_at M k ≡ Some cell

abbrev pub ExtensionIsBuiltIn : Type 0
ExtensionIsBuiltIn = (M N : NetlistView) (names : TapNames) (f : Fitted) (shown : NetId) → IsDense N → ExtendsStitched M N names f shown → HasBuiltIn M N names f shown

abbrev pub StitchedExtends : Type 0
StitchedExtends = (N : NetlistView) (names : TapNames) (f : Fitted) → ExtendsStitched (stitched N names f) N names f (bypass_at (first_net N f) f)

-- own: so the stitched netlist is, of a netlist without gaps
abbrev pub StitchedIsBuiltIn : Type 0
StitchedIsBuiltIn = (N : NetlistView) (names : TapNames) (f : Fitted) → IsDense N → HasBuiltIn (stitched N names f) N names f (bypass_at (first_net N f) f)
