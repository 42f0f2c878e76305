-- What the cells of each part of the test logic read and drive.
-- IEEE Std 1149.1-2001: TAP controller, instruction register, test data registers, boundary-scan register; the
-- order of nets is own.
use Rattle.std.specs.Prelude.{◌≡◌, ℕ, ◌+◌, ◌<◌, ◌≤◌, slice_get, Some}
use Rattle.netlist_model.specs.declared.NetId.{NetId}
use Rattle.netlist_model.specs.Lists.{CellView, NetlistView}
use Rattle.plan_fitting.specs.declared.fitted.FitRow.{FitRow}
use Rattle.plan_fitting.specs.declared.fitted.Fitted.{Fitted}
use Rattle.stitched_netlist.specs.declared.model.Site.{Site}
use Rattle.stitched_netlist.specs.declared.model.Site.TheVariants as site
use Rattle.stitched_netlist.specs.declared.model.TapPort.{TapPort}
use Rattle.stitched_netlist.specs.Sites.{Boundary, site_of}
use Rattle.stitched_netlist.specs.ModelRows.{row_nets, net_at}
use Rattle.stitched_netlist.specs.ModelLogic.{instruction_from, bypass_from, ident_from, logic_size, controller_part, instruction_part, bypass_part, ident_part}
use Rattle.stitched_netlist.specs.Stitched.{boundary_at}
use Rattle.stitched_netlist.specs.PlacesLaws.{row_first, row_side}
use Rattle.stitched_netlist.specs.CellsLaws.{gates_of_row, drivers_of_row}
use Rattle.stitched_netlist.specs.Gates.{EachCell, DriveInTurn, IsLogicCell}

-- The controller and the registers beside the boundary register.

-- own: their nets rise with their cells
pub record LogicTurns (first : ℕ) (port : TapPort) (f : Fitted) (number : ℕ) : Type 0 where
  pub controller : DriveInTurn first (controller_part first port number)
  pub instruction : DriveInTurn (first + instruction_from) (instruction_part first port f number)
  pub bypass : DriveInTurn (first + bypass_from f) (bypass_part first port f number)
  pub ident : DriveInTurn (first + ident_from f) (ident_part first port f number)

-- own: what they may read: their own nets, and the inputs of the test access port
pub record LogicNets (first : ℕ) (port : TapPort) (f : Fitted) (P : ℕ → Type 0) : Type 0 where
  pub tck : P port.tck.0
  pub tms : P port.tms.0
  pub tdi : P port.tdi.0
  pub trst : P port.trst.0
  pub own : (net : ℕ) → first ≤ net → net < first + logic_size f → P net

-- own: and they read nothing else
pub record LogicCells (first : ℕ) (port : TapPort) (f : Fitted) (P : ℕ → Type 0) (number : ℕ) : Type 0 where
  pub controller : EachCell (IsLogicCell port.tck port.trst P) (controller_part first port number)
  pub instruction : EachCell (IsLogicCell port.tck port.trst P) (instruction_part first port f number)
  pub bypass : EachCell (IsLogicCell port.tck port.trst P) (bypass_part first port f number)
  pub ident : EachCell (IsLogicCell port.tck port.trst P) (ident_part first port f number)

-- Rows of the boundary register.

-- own: the net that the cell at a site gives its value
abbrev pub into_at : Boundary → ℕ → FitRow → Site → NetId
into_at B side row site.Output = net_at B row
into_at B side row site.AddedDriver = record { 0 = side + 1 }
into_at B side row _ = record { 0 = side }

-- own: the gates of a row drive its nets in turn, then the net that it gives its value; the driver that is
-- added drives the pin
pub record RowDrives (N : NetlistView) (f : Fitted) (k : ℕ) (row : FitRow) : Type 0 where
  pub own : (j : ℕ) (cell : CellView) → slice_get (gates_of_row N f k row) j ≡ Some cell → j < row_nets N.ports row → cell.output ≡ Some (record { 0 = row_first N f k + j })
  pub into : (cell : CellView) → slice_get (gates_of_row N f k row) (row_nets N.ports row) ≡ Some cell
      → cell.output ≡ Some (into_at (boundary_at N f) (row_side N f k) row (site_of N.ports row))
  pub driver : (j : ℕ) (cell : CellView) → slice_get (drivers_of_row N f k row) j ≡ Some cell → cell.output ≡ Some (net_at (boundary_at N f) row)
