-- How many nets and cells the rows of the boundary register take.
use Rattle.std.proofs.Common.{◌≡◌, ℕ, zero, suc, ◌+◌, ◌*◌, ◌<◌, ◌≤◌, Bool, true, false, List, [], ◌∷◌, ◌++◌, length, drop, length-append, refl, arith}
use Rattle.std.proofs.lemmas.List.Sums.{sum_by-cons}
use Rattle.cell_library.specs.declared.codes.BoundaryKind.{BoundaryKind}
use Rattle.cell_library.specs.declared.codes.BoundaryKind.TheVariants.{Bc1, Bc2, Bc4, Bc7}
use Rattle.netlist_model.specs.declared.NetId.{NetId}
use Rattle.netlist_model.specs.declared.Feed.{Feed}
use Rattle.netlist_model.specs.declared.Feed.TheVariants.{Net}
use Rattle.netlist_model.specs.Lists.{PortView, CellView}
use Rattle.test_logic.specs.declared.ScanNets.{ScanNets}
use Rattle.boundary_cells.specs.Cells.{output_cells}
use Rattle.boundary_cells.specs.ThreeState.{control_cells, bidir_cells}
use Rattle.plan_fitting.specs.declared.fitted.FitRow.{FitRow}
use Rattle.core_sides.specs.stitched_netlist.declared.model.Site.{Site}
use Rattle.core_sides.specs.stitched_netlist.declared.model.Site.TheVariants as site
use Rattle.core_sides.specs.stitched_netlist.Sites.{Boundary, site_of, row_sides, sides_of}
use Rattle.core_sides.specs.stitched_netlist.Sides.{core_feed, level_net}
use Rattle.core_sides.specs.stitched_netlist.ModelRows.{nets_by, row_nets, nets_of_rows, net_at, enable_of, is_active_high, added_driver, site_cells, row_cells, last_bit, rows_cells}
use Rattle.core_sides.proofs.stitched_netlist.ModelMoves.{count_few}
use Rattle.core_sides.proofs.stitched_netlist.Few.{nets_by_few}

pub output_length : (cell : BoundaryKind) (first number : ℕ) (scan : ScanNets) (core : Feed) (into next : NetId)
    → length (output_cells cell first number scan core into next) ≤ 7
output_length Bc1 first number scan core into next = let long : length (output_cells Bc1 first number scan core into next) ≡ 6 = refl in omega arith
output_length Bc2 first number scan core into next = let long : length (output_cells Bc2 first number scan core into next) ≡ 7 = refl in omega arith
output_length Bc4 first number scan core into next = let long : length (output_cells Bc4 first number scan core into next) ≡ 6 = refl in omega arith
output_length Bc7 first number scan core into next = let long : length (output_cells Bc7 first number scan core into next) ≡ 6 = refl in omega arith

control_length : (cell : BoundaryKind) (first number : ℕ) (scan : ScanNets) (core : Feed) (high : Bool) (into next : NetId)
    → length (control_cells cell first number scan core high into next) ≤ 8
control_length Bc1 first number scan core high into next = let long : length (control_cells Bc1 first number scan core high into next) ≡ 7 = refl in omega arith
control_length Bc2 first number scan core high into next = let long : length (control_cells Bc2 first number scan core high into next) ≡ 8 = refl in omega arith
control_length Bc4 first number scan core high into next = let long : length (control_cells Bc4 first number scan core high into next) ≡ 7 = refl in omega arith
control_length Bc7 first number scan core high into next = let long : length (control_cells Bc7 first number scan core high into next) ≡ 7 = refl in omega arith

bidir_length : (high : Bool) (first number : ℕ) (scan : ScanNets) (core enable : Feed) (pin into next : NetId)
    → length (bidir_cells first number scan core enable high pin into next) ≡ 8
bidir_length true first number scan core enable pin into next = refl
bidir_length false first number scan core enable pin into next = refl

site_cells_few : (B : Boundary) (scan : ScanNets) (first number side : ℕ) (row : FitRow) (next : NetId) (at : Site)
    → length (site_cells B scan first number side row next at) ≤ 8
site_cells_few B scan first number side row next site.Observed =
    let long : length (site_cells B scan first number side row next site.Observed) ≡ 3 = refl in omega arith
site_cells_few B scan first number side row next site.Input =
    let long : length (site_cells B scan first number side row next site.Input) ≡ 6 = refl in omega arith
site_cells_few B scan first number side row next site.Output =
    let few = output_length row.cell first number scan (Net (record { 0 = side })) (net_at B row) next in omega arith
site_cells_few B scan first number side row next site.AddedDriver =
    let xs : List CellView = output_cells row.cell first number scan (Net (record { 0 = side })) (record { 0 = side + 1 }) next in
    let few = output_length row.cell first number scan (Net (record { 0 = side })) (record { 0 = side + 1 }) next in
    let both = length-append xs (added_driver (number + length xs) (record { 0 = side + 1 }) (level_net B row) (net_at B row) ∷ []) in omega arith
site_cells_few B scan first number side row next site.Driver = let few = output_length row.cell first number scan (core_feed B row) (record { 0 = side }) next in omega arith
site_cells_few B scan first number side row next site.Inout =
    let long = bidir_length (is_active_high B row) first number scan (core_feed B row) (enable_of B row) (net_at B row) (record { 0 = side }) next in omega arith
site_cells_few B scan first number side row next site.Control = control_length row.cell first number scan (core_feed B row) row.active_high (record { 0 = side }) next

pub nets_few : (ports : List PortView) (rows : List FitRow) → nets_of_rows ports rows ≤ 7 * length rows
nets_few ports [] = omega arith
nets_few ports (row ∷ rows) =
    let more = sum_by-cons (row_nets ports) row rows in
    let one = nets_by_few (site_of ports row) row.cell in
    let rest = nets_few ports rows in
    omega arith

pub cells_few : (B : Boundary) (scan : ScanNets) (first number : ℕ) (tdi : NetId) (side : ℕ) (rows : List FitRow)
    → length (rows_cells B scan first number tdi side rows) ≤ 8 * length rows
cells_few B scan first number tdi side [] = omega arith
cells_few B scan first number tdi side (row ∷ rows) =
    let xs : List CellView = rows_cells B scan first number tdi (side + row_sides B.ports row) rows in
    let from : ℕ = first + nets_of_rows B.ports rows in
    let next : NetId = last_bit B.ports first tdi rows in
    let both = length-append xs (row_cells B scan from (number + length xs) side row next) in
    let one = site_cells_few B scan from (number + length xs) side row next (site_of B.ports row) in
    let rest = cells_few B scan first number tdi (side + row_sides B.ports row) rows in
    omega arith

-- the nets between the core and the last rows are no more than those of all
pub last_sides : (ports : List PortView) (k : ℕ) (rows : List FitRow) → sides_of ports (drop k rows) ≤ sides_of ports rows
last_sides ports zero rows = omega arith
last_sides ports (suc k) [] = omega arith
last_sides ports (suc k) (row ∷ rows) =
    let more = sum_by-cons (row_sides ports) row rows in
    let rest = last_sides ports k rows in
    omega arith

-- all rows but the first so many
pub sides_behind : (ports : List PortView) (k : ℕ) (rows : List FitRow) → k ≤ length rows → sides_of ports rows ≤ sides_of ports (drop k rows) + 2 * k
sides_behind ports zero rows low = omega arith
sides_behind ports (suc k) [] low = absurd (omega arith)
sides_behind ports (suc k) (row ∷ rows) low =
    let more = sum_by-cons (row_sides ports) row rows in
    let one = count_few (site_of ports row) in
    let rest = sides_behind ports k rows (omega arith) in
    omega arith

-- The bit nearest TDO.

stage_some : (cell : BoundaryKind) (at : Site) → 0 < nets_by at cell
stage_some Bc1 site.Observed = omega arith
stage_some Bc1 site.Input = omega arith
stage_some Bc1 site.Output = omega arith
stage_some Bc1 site.AddedDriver = omega arith
stage_some Bc1 site.Driver = omega arith
stage_some Bc1 site.Inout = omega arith
stage_some Bc1 site.Control = omega arith
stage_some Bc2 site.Observed = omega arith
stage_some Bc2 site.Input = omega arith
stage_some Bc2 site.Output = omega arith
stage_some Bc2 site.AddedDriver = omega arith
stage_some Bc2 site.Driver = omega arith
stage_some Bc2 site.Inout = omega arith
stage_some Bc2 site.Control = omega arith
stage_some Bc4 site.Observed = omega arith
stage_some Bc4 site.Input = omega arith
stage_some Bc4 site.Output = omega arith
stage_some Bc4 site.AddedDriver = omega arith
stage_some Bc4 site.Driver = omega arith
stage_some Bc4 site.Inout = omega arith
stage_some Bc4 site.Control = omega arith
stage_some Bc7 site.Observed = omega arith
stage_some Bc7 site.Input = omega arith
stage_some Bc7 site.Output = omega arith
stage_some Bc7 site.AddedDriver = omega arith
stage_some Bc7 site.Driver = omega arith
stage_some Bc7 site.Inout = omega arith
stage_some Bc7 site.Control = omega arith

pub last_there : (ports : List PortView) (first : ℕ) (tdi : NetId) (rows : List FitRow) → tdi.0 < first → (last_bit ports first tdi rows).0 < first + nets_of_rows ports rows
last_there ports first tdi [] low = omega arith
last_there ports first tdi (row ∷ rows) low =
    let more = sum_by-cons (row_nets ports) row rows in
    let some = stage_some row.cell (site_of ports row) in
    omega arith
