-- What each live cell of the netlist with the test logic is, by its number.
-- IEEE Std 1149.1-2001: test logic architecture; the order of cells is own.
use Rattle.std.specs.Prelude.{◌≡◌, ℕ, ◌+◌, List, length, slice_get, Some}
use Rattle.netlist_model.specs.Lists.{CellView, NetlistView, cell_at, cell_count}
use Rattle.surrounded_core.specs.Rows.{row_cells}
use Rattle.plan_fitting.specs.declared.fitted.FitRow.{FitRow}
use Rattle.plan_fitting.specs.declared.fitted.Fitted.{Fitted}
use Rattle.stitched_netlist.specs.Sides.{core_cell}
use Rattle.stitched_netlist.specs.ModelLogic.{controller_part, instruction_part, bypass_part, ident_part}
use Rattle.stitched_netlist.specs.Stitched.{boundary_at, first_net, tdo_part}
use Rattle.stitched_netlist.specs.PlacesLaws.{port_of, scan_of, instruction_number, bypass_number, ident_number, tdo_number, row_first, row_side, row_number, row_next, boundary_row, added_drivers}

-- own: the cell is one of these, the first of which has this number
pub record IsAt (number from : ℕ) (cells : List CellView) (cell : CellView) : Type 0 where
  pub place : ℕ
  pub is : number ≡ from + place
  pub at : slice_get cells place ≡ Some cell

-- own: the gates of row k, but for the driver that is added behind them
abbrev pub gates_of_row : NetlistView → Fitted → ℕ → FitRow → List CellView
gates_of_row N f k row = row_cells (boundary_row (boundary_at N f) (row_side N f k) row) (row_first N f k) (row_number N f k) (scan_of N f) (row_next N f k)

abbrev pub driver_number : NetlistView → Fitted → ℕ → FitRow → ℕ
driver_number N f k row = row_number N f k + length (gates_of_row N f k row)

-- own: that driver, if there is one
abbrev pub drivers_of_row : NetlistView → Fitted → ℕ → FitRow → List CellView
drivers_of_row N f k row = added_drivers (boundary_at N f) (driver_number N f k row) (row_side N f k) row

-- own: a cell of the core behind its boundary cells, or one of the controller, a register, a row of the boundary
-- register, or TDO
pub data CellOf (N : NetlistView) (f : Fitted) (number : ℕ) (cell : CellView) : Type 0 where
  of_core : (old : CellView) → cell_at N number ≡ Some old → core_cell (boundary_at N f) old ≡ cell → CellOf N f number cell
  of_controller : IsAt number (cell_count N) (controller_part (first_net N f) (port_of N) (cell_count N)) cell → CellOf N f number cell
  of_instruction : IsAt number (instruction_number N f) (instruction_part (first_net N f) (port_of N) f (instruction_number N f)) cell → CellOf N f number cell
  of_bypass : IsAt number (bypass_number N f) (bypass_part (first_net N f) (port_of N) f (bypass_number N f)) cell → CellOf N f number cell
  of_ident : IsAt number (ident_number N f) (ident_part (first_net N f) (port_of N) f (ident_number N f)) cell → CellOf N f number cell
  of_row : (k : ℕ) (row : FitRow) → slice_get f.rows k ≡ Some row → IsAt number (row_number N f k) (gates_of_row N f k row) cell → CellOf N f number cell
  of_driver : (k : ℕ) (row : FitRow) → slice_get f.rows k ≡ Some row → IsAt number (driver_number N f k row) (drivers_of_row N f k row) cell → CellOf N f number cell
  of_tdo : IsAt number (tdo_number N f) (tdo_part (boundary_at N f) (first_net N f) (port_of N) f (tdo_number N f)) cell → CellOf N f number cell
