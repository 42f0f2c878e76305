-- The boundary register as cells, from TDI to TDO.
-- IEEE Std 1149.1-2001: boundary-scan register, the annex on BSDL (cell 0 is nearest TDO); the order of
-- the gates is own.
use Rattle.std.specs.Prelude.{ℕ, ◌+◌, Bool, false, List, [], ◌∷◌, ◌++◌, length, slice_get, sum_by, Option, Some, option_and_then, unwrap_or}
use Rattle.std.specs.Option.{option_map_or}
use Rattle.cell_library.specs.declared.codes.BoundaryKind.{BoundaryKind}
use Rattle.cell_library.specs.declared.Kind.TheVariants.{Bufif1}
use Rattle.netlist_model.specs.declared.Name.TheVariants.{Added}
use Rattle.netlist_model.specs.declared.NetId.{NetId}
use Rattle.netlist_model.specs.declared.Feed.{Feed}
use Rattle.netlist_model.specs.declared.Feed.TheVariants.{Net, Const}
use Rattle.netlist_model.specs.Lists.{PortView, CellView}
use Rattle.test_logic.specs.declared.ScanNets.{ScanNets}
use Rattle.surrounded_core.specs.boundary_cells.Cells.{stage_count, observe_cells, input_cells, output_cells}
use Rattle.surrounded_core.specs.boundary_cells.ThreeState.{control_count, control_cells, bidir_cells}
use Rattle.plan_fitting.specs.declared.fitted.FitRow.{FitRow}
use Rattle.stitched_netlist.specs.declared.model.Site.{Site}
use Rattle.stitched_netlist.specs.declared.model.Site.TheVariants as site
use Rattle.stitched_netlist.specs.Sites.{Boundary, row_net, site_of, row_sides}
use Rattle.stitched_netlist.specs.Sides.{core_feed, level_net}

-- How many nets they take.

abbrev pub nets_by : Site → BoundaryKind → ℕ
nets_by site.Observed cell = 3
nets_by site.Input cell = 5
nets_by site.Inout cell = 7
nets_by site.Control cell = control_count cell
nets_by site.Output cell = stage_count cell
nets_by site.AddedDriver cell = stage_count cell
nets_by site.Driver cell = stage_count cell

-- own: the nets of a cell, of which its shift bit is the first
abbrev pub row_nets : List PortView → FitRow → ℕ
row_nets ports row = nets_by (site_of ports row) row.cell

abbrev pub nets_of_rows : List PortView → List FitRow → ℕ
nets_of_rows ports rows = sum_by (row_nets ports) rows

-- Cells behind others.

-- own: cells, the first of which has this number, and behind them others that are numbered on
abbrev pub behind : ℕ → List CellView → (ℕ → List CellView) → List CellView
behind number cells more = cells ++ more (number + length cells)

-- One cell.

-- the net of the row's bit, which each row but a control cell has
abbrev pub net_at : Boundary → FitRow → NetId
net_at B row = unwrap_or (row_net B.ports row) (record { 0 = 0 })

-- the control cell that a row names
abbrev pub control_row : Boundary → FitRow → Option FitRow
control_row B row = option_and_then (slice_get B.rows) row.control

-- the core's control of an inout's driver, and whether 1 enables it
abbrev pub enable_of : Boundary → FitRow → Feed
enable_of B row = option_map_or (core_feed B) (control_row B row) (Const false)

abbrev pub is_active_high : Boundary → FitRow → Bool
is_active_high B row = option_map_or (λ (control : FitRow). control.active_high) (control_row B row) false

-- the driver that an output gets for HIGHZ, by its number, its data and its control
abbrev pub added_driver : ℕ → NetId → NetId → NetId → CellView
added_driver number value level net = record { kind = Bufif1; name = Some (Added number); feeds = Net value ∷ Net level ∷ []; output = Some net }

-- own: the gates of the cell of a row at this site, on nets from `first` on and numbered from `number` on; `side` is
-- the first net between the core and the cell, and `next` the next bit towards TDI
abbrev pub site_cells : Boundary → ScanNets → ℕ → ℕ → ℕ → FitRow → NetId → Site → List CellView
site_cells B scan first number side row next site.Observed = observe_cells first number scan (net_at B row) next
site_cells B scan first number side row next site.Input = input_cells first number scan (net_at B row) (record { 0 = side }) next
site_cells B scan first number side row next site.Output = output_cells row.cell first number scan (Net (record { 0 = side })) (net_at B row) next
site_cells B scan first number side row next site.AddedDriver =
    behind number (output_cells row.cell first number scan (Net (record { 0 = side })) (record { 0 = side + 1 }) next)
    (λ n. added_driver n (record { 0 = side + 1 }) (level_net B row) (net_at B row) ∷ [])
site_cells B scan first number side row next site.Driver = output_cells row.cell first number scan (core_feed B row) (record { 0 = side }) next
site_cells B scan first number side row next site.Inout =
    bidir_cells first number scan (core_feed B row) (enable_of B row) (is_active_high B row) (net_at B row) (record { 0 = side }) next
site_cells B scan first number side row next site.Control =
    control_cells row.cell first number scan (core_feed B row) row.active_high (record { 0 = side }) next

abbrev pub row_cells : Boundary → ScanNets → ℕ → ℕ → ℕ → FitRow → NetId → List CellView
row_cells B scan first number side row next = site_cells B scan first number side row next (site_of B.ports row)

-- All of them.

-- the bit nearest TDO, on nets from `first` on; a register without bits is TDI
abbrev pub last_bit : List PortView → ℕ → NetId → List FitRow → NetId
last_bit ports first tdi [] = tdi
last_bit ports first tdi (row ∷ rows) = record { 0 = first + nets_of_rows ports rows }

-- own: the gates of these rows, the row nearest TDI first; `side` is the first net between the core and them
abbrev pub rows_cells : Boundary → ScanNets → ℕ → ℕ → NetId → ℕ → List FitRow → List CellView
rows_cells B scan first number tdi side [] = []
rows_cells B scan first number tdi side (row ∷ rows) =
    behind number (rows_cells B scan first number tdi (side + row_sides B.ports row) rows)
    (λ n. row_cells B scan (first + nets_of_rows B.ports rows) n side row (last_bit B.ports first tdi rows))
