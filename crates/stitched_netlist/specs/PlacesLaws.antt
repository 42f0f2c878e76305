-- Where the parts of the test logic stand in the netlist that they are built into: their first nets, and the numbers of
-- their first cells.
-- IEEE Std 1149.1-2001: TAP controller, instruction register, test data registers; the order is own.
use Rattle.std.specs.Prelude.{ℕ, suc, ◌+◌, List, [], ◌∷◌, drop, length}
use Rattle.netlist_model.specs.declared.NetId.{NetId}
use Rattle.netlist_model.specs.declared.Feed.TheVariants.{Net}
use Rattle.netlist_model.specs.Lists.{CellView, NetlistView, cell_count}
use Rattle.test_logic.specs.declared.ScanNets.{ScanNets}
use Rattle.surrounded_core.specs.Rows.{BoundaryRow, observe_row, input_row, output_row, control_row, bidir_row}
use Rattle.plan_fitting.specs.declared.fitted.FitRow.{FitRow}
use Rattle.plan_fitting.specs.declared.fitted.Fitted.{Fitted}
use Rattle.stitched_netlist.specs.declared.model.TapPort.{TapPort}
use Rattle.stitched_netlist.specs.declared.model.Site.{Site}
use Rattle.stitched_netlist.specs.declared.model.Site.TheVariants as site
use Rattle.stitched_netlist.specs.Sites.{Boundary, site_of, side_at}
use Rattle.stitched_netlist.specs.Sides.{core_feed, level_net}
use Rattle.stitched_netlist.specs.ModelRows.{nets_of_rows, net_at, enable_of, is_active_high, added_driver, last_bit, rows_cells}
use Rattle.stitched_netlist.specs.ModelLogic.{logic_size, instruction_at, controller_part, instruction_part, bypass_part, ident_part}
use Rattle.stitched_netlist.specs.Stitched.{tap_port, boundary_at, first_net, rows_part}

-- The test access port, and what steers the boundary register.

abbrev pub port_of : NetlistView → TapPort
port_of N = tap_port (length N.nets)

abbrev pub scan_of : NetlistView → Fitted → ScanNets
scan_of N f = (instruction_at (first_net N f) (port_of N) f).scan

-- The number of the first cell of each part.

abbrev pub instruction_number : NetlistView → Fitted → ℕ
instruction_number N f = cell_count N + length (controller_part (first_net N f) (port_of N) (cell_count N))

abbrev pub bypass_number : NetlistView → Fitted → ℕ
bypass_number N f = instruction_number N f + length (instruction_part (first_net N f) (port_of N) f (instruction_number N f))

abbrev pub ident_number : NetlistView → Fitted → ℕ
ident_number N f = bypass_number N f + length (bypass_part (first_net N f) (port_of N) f (bypass_number N f))

abbrev pub register_number : NetlistView → Fitted → ℕ
register_number N f = ident_number N f + length (ident_part (first_net N f) (port_of N) f (ident_number N f))

abbrev pub tdo_number : NetlistView → Fitted → ℕ
tdo_number N f = register_number N f + length (rows_part (boundary_at N f) (first_net N f) (port_of N) f (register_number N f))

-- The rows of the boundary register, by their numbers: those nearer TDI stand before.

-- own: the first net of the register
abbrev pub register_net : NetlistView → Fitted → ℕ
register_net N f = first_net N f + logic_size f

-- own: the rows nearer TDI
abbrev pub rows_before : Fitted → ℕ → List FitRow
rows_before f k = drop (suc k) f.rows

-- own: the first net of row k, which is that of its bit
abbrev pub row_first : NetlistView → Fitted → ℕ → ℕ
row_first N f k = register_net N f + nets_of_rows N.ports (rows_before f k)

-- own: the first net between the core and it
abbrev pub row_side : NetlistView → Fitted → ℕ → ℕ
row_side N f k = side_at (boundary_at N f) k

-- own: the number of its first cell
abbrev pub row_number : NetlistView → Fitted → ℕ → ℕ
row_number N f k = register_number N f
    + length (rows_cells (boundary_at N f) (scan_of N f) (register_net N f) (register_number N f) (port_of N).tdi (row_side N f (suc k)) (rows_before f k))

-- own: the net of the next bit towards TDI
abbrev pub row_next : NetlistView → Fitted → ℕ → NetId
row_next N f k = last_bit N.ports (register_net N f) (port_of N).tdi (rows_before f k)

-- What a row is handed.

abbrev pub handed_at : Boundary → ℕ → FitRow → Site → BoundaryRow
handed_at B side row site.Observed = observe_row (net_at B row)
handed_at B side row site.Input = input_row (net_at B row) (record { 0 = side })
handed_at B side row site.Output = output_row row.cell (Net (record { 0 = side })) (net_at B row)
handed_at B side row site.AddedDriver = output_row row.cell (Net (record { 0 = side })) (record { 0 = side + 1 })
handed_at B side row site.Driver = output_row row.cell (core_feed B row) (record { 0 = side })
handed_at B side row site.Inout = bidir_row (core_feed B row) (enable_of B row) (is_active_high B row) (net_at B row) (record { 0 = side })
handed_at B side row site.Control = control_row row.cell (core_feed B row) row.active_high (record { 0 = side })

-- own: the row by its kind, with its pin and what the core gives it, and last the net that it gives a value
abbrev pub boundary_row : Boundary → ℕ → FitRow → BoundaryRow
boundary_row B side row = handed_at B side row (site_of B.ports row)

-- own: the driver that is added at the site, if any
abbrev pub drivers_at : Boundary → ℕ → ℕ → FitRow → Site → List CellView
drivers_at B number side row site.AddedDriver = added_driver number (record { 0 = side + 1 }) (level_net B row) (net_at B row) ∷ []
drivers_at B number side row _ = []

abbrev pub added_drivers : Boundary → ℕ → ℕ → FitRow → List CellView
added_drivers B number side row = drivers_at B number side row (site_of B.ports row)
