-- How many cells and nets the parts of the test logic have, and so where each begins.
-- IEEE Std 1149.1-2001: TAP controller, instruction register, test data registers, boundary-scan register;
-- the counts are own.
use Rattle.std.specs.Prelude.{◌≡◌, ℕ, ◌+◌, List, length, sum_by}
use Rattle.netlist_model.specs.Lists.{PortView, NetlistView, cell_count}
use Rattle.netlist_model.specs.Contained.{IsDense}
use Rattle.plan_fitting.specs.declared.fitted.FitRow.{FitRow}
use Rattle.plan_fitting.specs.declared.fitted.Fitted.{Fitted}
use Rattle.stitched_netlist.specs.declared.model.TapNames.{TapNames}
use Rattle.stitched_netlist.specs.declared.model.TapPort.{TapPort}
use Rattle.stitched_netlist.specs.declared.model.Site.{Site}
use Rattle.stitched_netlist.specs.declared.model.Site.TheVariants as site
use Rattle.stitched_netlist.specs.Sites.{site_of, sides_of}
use Rattle.stitched_netlist.specs.ModelRows.{row_nets, nets_of_rows}
use Rattle.stitched_netlist.specs.ModelLogic.{instruction_from, bypass_from, ident_from, code_size, logic_size, controller_part, instruction_part, bypass_part, ident_part}
use Rattle.stitched_netlist.specs.Stitched.{boundary_at, first_net, tdo_part, stitched}
use Rattle.stitched_netlist.specs.PlacesLaws.{port_of, instruction_number, bypass_number, ident_number, register_number, tdo_number, rows_before, row_number}
use Rattle.stitched_netlist.specs.CellsLaws.{gates_of_row, drivers_of_row}
use Rattle.surrounded_core.specs.instruction_gates.Register.{instruction_size}

-- A row.

-- own: each row but a BC_4's has one gate more than nets, which drives a net that is handed to it
abbrev pub choice_count : Site → ℕ
choice_count site.Observed = 0
choice_count _ = 1

abbrev pub driver_count : Site → ℕ
driver_count site.AddedDriver = 1
driver_count _ = 0

-- own: the gates of a row, but for the driver that is added behind them
abbrev pub row_gates : List PortView → FitRow → ℕ
row_gates ports row = row_nets ports row + choice_count (site_of ports row)

abbrev pub row_size : List PortView → FitRow → ℕ
row_size ports row = row_gates ports row + driver_count (site_of ports row)

abbrev pub cells_of_rows : List PortView → List FitRow → ℕ
cells_of_rows ports rows = sum_by (row_size ports) rows

-- The parts.

-- own: the controller and the registers beside the boundary register have as many cells as nets, wherever
-- they are numbered
pub record LogicLengths (first : ℕ) (port : TapPort) (f : Fitted) (number : ℕ) : Type 0 where
  pub controller : length (controller_part first port number) ≡ instruction_from
  pub instruction : length (instruction_part first port f number) ≡ instruction_size f.codes
  pub bypass : length (bypass_part first port f number) ≡ 5
  pub ident : length (ident_part first port f number) ≡ code_size f.usercode f.idcode

pub record RowLengths (N : NetlistView) (f : Fitted) (k : ℕ) (row : FitRow) : Type 0 where
  pub gates : length (gates_of_row N f k row) ≡ row_gates N.ports row
  pub drivers : length (drivers_of_row N f k row) ≡ driver_count (site_of N.ports row)

-- own: the numbers of the first cells
pub record Numbers (N : NetlistView) (f : Fitted) : Type 0 where
  pub instruction : instruction_number N f ≡ cell_count N + instruction_from
  pub bypass : bypass_number N f ≡ cell_count N + bypass_from f
  pub ident : ident_number N f ≡ cell_count N + ident_from f
  pub register : register_number N f ≡ cell_count N + logic_size f
  pub row : (k : ℕ) → row_number N f k ≡ register_number N f + cells_of_rows N.ports (rows_before f k)
  pub tdo : tdo_number N f ≡ register_number N f + cells_of_rows N.ports f.rows
  pub tdo_length : (number : ℕ) → length (tdo_part (boundary_at N f) (first_net N f) (port_of N) f number) ≡ 7

-- The whole.

-- own: how many cells are added
abbrev pub added_cells : NetlistView → Fitted → ℕ
added_cells N f = logic_size f + cells_of_rows N.ports f.rows + 7

-- own: and how many nets
abbrev pub added_net_count : NetlistView → Fitted → ℕ
added_net_count N f = 5 + sides_of N.ports f.rows + logic_size f + nets_of_rows N.ports f.rows + 6

-- own: of the netlist with the test logic, which has no gaps
pub record StitchedCounts (N : NetlistView) (names : TapNames) (f : Fitted) : Type 0 where
  pub dense : IsDense (stitched N names f)
  pub cells : cell_count (stitched N names f) ≡ cell_count N + added_cells N f
  pub nets : length (stitched N names f).nets ≡ length N.nets + added_net_count N f

abbrev pub StitchedHasCounts : Type 0
StitchedHasCounts = (N : NetlistView) (names : TapNames) (f : Fitted) → StitchedCounts N names f
