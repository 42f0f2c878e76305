-- The boundary register: the gates of each row stand above what they read, and what a row gives above what it gives that of.
use Rattle.std.proofs.Common.{◌≡◌, ℕ, suc, ◌+◌, ◌<◌, ◌≤◌, Bool, true, false, not, IsTrue, List, [], ◌∷◌, ◌++◌, length, length-append, refl, ◌∙◌, slice_get, Option, Some, None, arith}
use Rattle.std.proofs.lemmas.List.Sums.{sum_by-cons}
use Rattle.cell_library.specs.declared.codes.BoundaryKind.{BoundaryKind}
use Rattle.cell_library.specs.declared.codes.BoundaryKind.TheVariants.{Bc1, Bc2, Bc4, Bc7}
use Rattle.netlist_model.specs.declared.NetId.{NetId}
use Rattle.netlist_model.specs.declared.Feed.{Feed}
use Rattle.netlist_model.specs.declared.Feed.TheVariants.{Net, Const}
use Rattle.netlist_model.specs.Lists.{CellView}
use Rattle.netlist_model.specs.Formed.{FeedsBelow}
use Rattle.gate_parts.specs.Levels.{AreFeedsUpTo}
use Rattle.test_logic.specs.declared.ScanNets.{ScanNets}
use Rattle.surrounded_core.specs.register_gates.declared.bits.TheConstants.{SHIFT_BIT}
use Rattle.surrounded_core.specs.boundary_cells.declared.tables.TheConstants.{BC_1}
use Rattle.surrounded_core.specs.boundary_cells.Cells.{stage_table, cell_given, output_cells}
use Rattle.surrounded_core.specs.boundary_cells.ThreeState.{control_table, bidir_table}
use Rattle.surrounded_core.specs.Rows.{observe_row, input_row, output_row, control_row, bidir_row}
use Rattle.surrounded_core.specs.Above.{AreAbove, PartsStandAbove}
use Rattle.surrounded_core.specs.Registers.{shift_levels}
use Rattle.surrounded_core.specs.LevelsRows.{bc_1_levels, stage_levels, control_levels, level_net as level_of, RowsStandAbove}
use Rattle.surrounded_core.proofs.Feeds.{up_cons}
use Rattle.plan_fitting.specs.declared.fitted.FitRow.{FitRow}
use Rattle.stitched_netlist.specs.declared.model.Site.{Site}
use Rattle.stitched_netlist.specs.declared.model.Site.TheVariants as site
use Rattle.stitched_netlist.specs.Sites.{Boundary, site_of, side_count, row_sides}
use Rattle.stitched_netlist.specs.Sides.{level_net, core_feed}
use Rattle.stitched_netlist.specs.ModelRows.{nets_by, row_nets, nets_of_rows, net_at, enable_of, is_active_high, added_driver, site_cells, row_cells, last_bit, rows_cells}
use Rattle.stitched_netlist.proofs.RanksPlaces.{StandAt, front_at, behind_at, first_at, levels_at, length_levels, are_high, ranked}
use Rattle.stitched_netlist.proofs.RanksLaws.{net_rank, feed_rank, sides_at, sides_ranks, row_base, bidir_levels, site_levels, row_ranks, rows_ranks}
use Rattle.stitched_netlist.proofs.Instruction.{IsScanUpTo}

-- What the numbers of a row's pin and of what the core gives it have to be.

pub record FitsInout (rank alone : ℕ → ℕ) (low : ℕ) (B : Boundary) (row : FitRow) : Type 0 where
  pub core : AreFeedsUpTo rank (feed_rank alone low row.core) (core_feed B row ∷ [])
  pub less : feed_rank alone low row.core ≤ net_rank alone low (net_at B row).0
  pub enable : AreFeedsUpTo rank (net_rank alone low (net_at B row).0) (enable_of B row ∷ [])
  pub pin : rank (net_at B row).0 ≤ net_rank alone low (net_at B row).0

abbrev pub RowFits : (ℕ → ℕ) → (ℕ → ℕ) → ℕ → Boundary → FitRow → Site → Type 0
RowFits rank alone low B row site.Observed = rank (net_at B row).0 ≤ low
RowFits rank alone low B row site.Input = rank (net_at B row).0 < low
RowFits rank alone low B row site.Output = net_rank alone low (net_at B row).0 < rank (net_at B row).0
RowFits rank alone low B row site.AddedDriver =
    (net_rank alone low (net_at B row).0 + 1 < rank (net_at B row).0) × (rank (level_net B row).0 < rank (net_at B row).0)
RowFits rank alone low B row site.Driver = AreFeedsUpTo rank (feed_rank alone low row.core) (core_feed B row ∷ [])
RowFits rank alone low B row site.Inout = FitsInout rank alone low B row
RowFits rank alone low B row site.Control = AreFeedsUpTo rank (feed_rank alone low row.core) (core_feed B row ∷ [])

-- Operands.

pub feed_low : (alone : ℕ → ℕ) (low : ℕ) (core : Option Feed) → low ≤ feed_rank alone low core
feed_low alone low None = omega arith
feed_low alone low (Some (Const b)) = omega arith
feed_low alone low (Some (Net net)) = omega arith

pub up_to_more : (rank : ℕ → ℕ) (base more : ℕ) (feed : Feed) → base ≤ more → AreFeedsUpTo rank base (feed ∷ []) → AreFeedsUpTo rank more (feed ∷ [])
up_to_more rank base more (Net net) less up = let low = up.0 in (omega arith, tt)
up_to_more rank base more (Const b) less up = tt

below_cons : (rank : ℕ → ℕ) (base bound : ℕ) (feed : Feed) (rest : List Feed) → base < bound → AreFeedsUpTo rank base (feed ∷ []) → FeedsBelow rank rest bound → FeedsBelow rank (feed ∷ rest) bound
below_cons rank base bound (Net net) rest less up below = let low = up.0 in (omega arith, below)
below_cons rank base bound (Const b) rest less up below = below

cell_up : (rank : ℕ → ℕ) (base top : ℕ) (scan : ScanNets) (next : NetId) (captured : Feed) (mode : NetId) (tail : List Feed) → top ≤ base → IsScanUpTo rank top scan → rank next.0 ≡ 0
    → AreFeedsUpTo rank base (captured ∷ []) → rank mode.0 ≤ top → AreFeedsUpTo rank base tail → AreFeedsUpTo rank base (cell_given scan next captured mode ++ tail)
cell_up rank base top scan next captured mode tail less up n c m t =
    let a0 = up.tck in let a1 = up.trst in let a2 = up.capture in let a3 = up.shift in let a4 = up.update in let a5 = up.extest in
    (omega arith, (omega arith, (omega arith, (omega arith, (omega arith, (omega arith, up_cons rank base captured (Net scan.extest ∷ Net mode ∷ tail) c (omega arith, (omega arith, t))))))))

-- Tables.

stage_high : (cell : BoundaryKind) → IsTrue (are_high (stage_levels cell) (stage_table cell))
stage_high Bc1 = refl
stage_high Bc2 = refl
stage_high Bc4 = refl
stage_high Bc7 = refl

control_high : (cell : BoundaryKind) → IsTrue (are_high (control_levels cell) (control_table cell))
control_high Bc1 = refl
control_high Bc2 = refl
control_high Bc4 = refl
control_high Bc7 = refl

bidir_high : (high : Bool) → IsTrue (are_high bidir_levels (bidir_table high))
bidir_high true = refl
bidir_high false = refl

stage_update : (base : ℕ) (cell : BoundaryKind) → slice_get (levels_at base (stage_levels cell)) 3 ≡ Some 0
stage_update base Bc1 = refl
stage_update base Bc2 = refl
stage_update base Bc4 = refl
stage_update base Bc7 = refl

control_level : (rank : ℕ → ℕ) (first base : ℕ) (cell : BoundaryKind) → StandAt rank first (levels_at base (control_levels cell)) → rank (level_of cell first) ≡ base + 1
control_level rank first base Bc1 at = at 5 (base + 1) refl
control_level rank first base Bc2 at = at 6 (base + 1) refl
control_level rank first base Bc4 at = at 5 (base + 1) refl
control_level rank first base Bc7 at = at 5 (base + 1) refl

-- One row.

-- an output's cell, on a base up to which the core's value has a number, and below what it gives
stage_above : RowsStandAbove → (rank : ℕ → ℕ) (first number base top : ℕ) (scan : ScanNets) (cell : BoundaryKind) (core : Feed) (into next : NetId) → top < base
    → IsScanUpTo rank top scan → rank next.0 ≡ 0 → StandAt rank first (levels_at base (stage_levels cell)) → AreFeedsUpTo rank base (core ∷ []) → base < rank into.0
    → AreAbove rank (output_cells cell first number scan core into next)
stage_above law rank first number base top scan cell core into next less up n at c above =
    let m = up.m_out in
    let u : rank (first + 3) ≡ 0 = at 3 0 (stage_update base cell) in
    law rank (output_row cell core into) first number base scan next (ranked rank first base (stage_levels cell) (stage_table cell) (stage_high cell) at)
    (cell_up rank base top scan next core scan.m_out [] (omega arith) up n c m tt)
    (below_cons rank base (rank into.0) core (Net (record { 0 = first + 3 }) ∷ Net scan.m_out ∷ []) above c (omega arith, (omega arith, tt)))

row_above : RowsStandAbove → PartsStandAbove → (rank alone : ℕ → ℕ) (low top : ℕ) (B : Boundary) (scan : ScanNets) (first number side : ℕ) (row : FitRow) (next : NetId) → top < low
    → IsScanUpTo rank top scan → rank next.0 ≡ 0 → (at : Site) → StandAt rank first (row_ranks alone low B row at) → StandAt rank side (sides_at alone low B row at)
    → RowFits rank alone low B row at → AreAbove rank (site_cells B scan first number side row next at)
row_above law joined rank alone low top B scan first number side row next less up n site.Observed at sides fits =
    let a0 = up.tck in let a1 = up.trst in let a2 = up.capture in let a3 = up.shift in
    law rank (observe_row (net_at B row)) first number low scan next (ranked rank first low shift_levels SHIFT_BIT refl at)
    (omega arith, (omega arith, (omega arith, (omega arith, (fits, (omega arith, tt)))))) tt
row_above law joined rank alone low top B scan first number side row next less up n site.Input at sides fits =
    let m = up.m_in in
    let u : rank (first + 3) ≡ 0 = at 3 0 refl in
    let s : rank side ≡ low = first_at rank side low (low ∷ []) sides refl in
    law rank (input_row (net_at B row) (record { 0 = side })) first number low scan next (ranked rank first low bc_1_levels BC_1 refl at)
    (cell_up rank low top scan next (Net (net_at B row)) scan.m_in [] (omega arith) up n (omega arith, tt) m tt)
    (omega arith, (omega arith, (omega arith, tt)))
row_above law joined rank alone low top B scan first number side row next less up n site.Output at sides fits =
    let base : ℕ = net_rank alone low (net_at B row).0 in
    let s : rank side ≡ base = first_at rank side base (base ∷ []) sides refl in
    stage_above law rank first number base top scan row.cell (Net (record { 0 = side })) (net_at B row) next (omega arith) up n at (omega arith, tt) fits
row_above law joined rank alone low top B scan first number side row next less up n site.AddedDriver at sides fits =
    let base : ℕ = net_rank alone low (net_at B row).0 in
    let s : rank side ≡ base = first_at rank side base (base ∷ (base + 1) ∷ []) sides refl in
    let s' : rank (side + 1) ≡ base + 1 = sides 1 (base + 1) refl in
    let gates : List CellView = output_cells row.cell first number scan (Net (record { 0 = side })) (record { 0 = side + 1 }) next in
    let f0 = fits.0 in
    joined rank gates (added_driver (number + length gates) (record { 0 = side + 1 }) (level_net B row) (net_at B row) ∷ [])
    (stage_above law rank first number base top scan row.cell (Net (record { 0 = side })) (record { 0 = side + 1 }) next (omega arith) up n at (omega arith, tt) (omega arith))
    ((λ is. (omega arith, (fits.1, tt))), tt)
row_above law joined rank alone low top B scan first number side row next less up n site.Driver at sides fits =
    let base : ℕ = feed_rank alone low row.core in
    let l : low ≤ base = feed_low alone low row.core in
    let s : rank side ≡ base + 1 = first_at rank side (base + 1) ((base + 1) ∷ []) sides refl in
    stage_above law rank first number base top scan row.cell (core_feed B row) (record { 0 = side }) next (omega arith) up n at fits (omega arith)
row_above law joined rank alone low top B scan first number side row next less up n site.Inout at sides fits =
    let base : ℕ = net_rank alone low (net_at B row).0 in
    let own : ℕ = feed_rank alone low row.core in
    let l : low ≤ own = feed_low alone low row.core in
    let s : rank side ≡ own + 1 = first_at rank side (own + 1) ((own + 1) ∷ []) sides refl in
    let m = up.m_out in
    let u : rank (first + 3) ≡ 0 = at 3 0 refl in
    law rank (bidir_row (core_feed B row) (enable_of B row) (is_active_high B row) (net_at B row) (record { 0 = side })) first number base scan next
    (ranked rank first base bidir_levels (bidir_table (is_active_high B row)) (bidir_high (is_active_high B row)) at)
    (cell_up rank base top scan next (core_feed B row) scan.m_out (Net (net_at B row) ∷ enable_of B row ∷ []) (omega arith) up n
    (up_to_more rank own base (core_feed B row) fits.less fits.core) m (fits.pin, fits.enable))
    (below_cons rank own (rank side) (core_feed B row) (Net (record { 0 = first + 3 }) ∷ Net scan.m_out ∷ []) (omega arith) fits.core (omega arith, (omega arith, tt)))
row_above law joined rank alone low top B scan first number side row next less up n site.Control at sides fits =
    let base : ℕ = feed_rank alone low row.core in
    let l : low ≤ base = feed_low alone low row.core in
    let s : rank side ≡ base + 2 = first_at rank side (base + 2) ((base + 2) ∷ []) sides refl in
    let m = up.m_out in
    let h = up.hiz in
    let e : rank (level_of row.cell first) ≡ base + 1 = control_level rank first base row.cell at in
    law rank (control_row row.cell (core_feed B row) row.active_high (record { 0 = side })) first number base scan next
    (ranked rank first base (control_levels row.cell) (control_table row.cell) (control_high row.cell) at)
    (cell_up rank base top scan next (core_feed B row) scan.m_out (Const (not row.active_high) ∷ Net scan.hiz ∷ []) (omega arith) up n fits m (omega arith, tt))
    (omega arith, (omega arith, tt))

-- All of them.

levels_count : (cell : BoundaryKind) (at : Site) → length (site_levels cell at) ≡ nets_by at cell
levels_count cell site.Observed = refl
levels_count cell site.Input = refl
levels_count Bc1 site.Output = refl
levels_count Bc2 site.Output = refl
levels_count Bc4 site.Output = refl
levels_count Bc7 site.Output = refl
levels_count Bc1 site.AddedDriver = refl
levels_count Bc2 site.AddedDriver = refl
levels_count Bc4 site.AddedDriver = refl
levels_count Bc7 site.AddedDriver = refl
levels_count Bc1 site.Driver = refl
levels_count Bc2 site.Driver = refl
levels_count Bc4 site.Driver = refl
levels_count Bc7 site.Driver = refl
levels_count cell site.Inout = refl
levels_count Bc1 site.Control = refl
levels_count Bc2 site.Control = refl
levels_count Bc4 site.Control = refl
levels_count Bc7 site.Control = refl

levels_first : (base : ℕ) (cell : BoundaryKind) (at : Site) → slice_get (levels_at base (site_levels cell at)) 0 ≡ Some 0
levels_first base cell site.Observed = refl
levels_first base cell site.Input = refl
levels_first base Bc1 site.Output = refl
levels_first base Bc2 site.Output = refl
levels_first base Bc4 site.Output = refl
levels_first base Bc7 site.Output = refl
levels_first base Bc1 site.AddedDriver = refl
levels_first base Bc2 site.AddedDriver = refl
levels_first base Bc4 site.AddedDriver = refl
levels_first base Bc7 site.AddedDriver = refl
levels_first base Bc1 site.Driver = refl
levels_first base Bc2 site.Driver = refl
levels_first base Bc4 site.Driver = refl
levels_first base Bc7 site.Driver = refl
levels_first base cell site.Inout = refl
levels_first base Bc1 site.Control = refl
levels_first base Bc2 site.Control = refl
levels_first base Bc4 site.Control = refl
levels_first base Bc7 site.Control = refl

row_count : (alone : ℕ → ℕ) (low : ℕ) (B : Boundary) (row : FitRow) (at : Site) → length (row_ranks alone low B row at) ≡ nets_by at row.cell
row_count alone low B row at = length_levels (row_base alone low B row at) (site_levels row.cell at) ∙ levels_count row.cell at

pub rows_count : (alone : ℕ → ℕ) (low : ℕ) (B : Boundary) (rows : List FitRow) → length (rows_ranks alone low B rows) ≡ nets_of_rows B.ports rows
rows_count alone low B [] = refl
rows_count alone low B (row ∷ rows) =
    let a = length-append (rows_ranks alone low B rows) (row_ranks alone low B row (site_of B.ports row)) in
    let b = row_count alone low B row (site_of B.ports row) in
    let c = rows_count alone low B rows in
    let d = sum_by-cons (row_nets B.ports) row rows in
    omega arith

pub sides_count : (alone : ℕ → ℕ) (low : ℕ) (B : Boundary) (row : FitRow) (at : Site) → length (sides_at alone low B row at) ≡ side_count at
sides_count alone low B row site.Observed = refl
sides_count alone low B row site.Input = refl
sides_count alone low B row site.Output = refl
sides_count alone low B row site.AddedDriver = refl
sides_count alone low B row site.Driver = refl
sides_count alone low B row site.Inout = refl
sides_count alone low B row site.Control = refl

-- those of the first row, and those behind it
pub sides_front : (rank alone : ℕ → ℕ) (low : ℕ) (B : Boundary) (side : ℕ) (row : FitRow) (rows : List FitRow) → StandAt rank side (sides_ranks alone low B (row ∷ rows))
    → StandAt rank side (sides_at alone low B row (site_of B.ports row))
sides_front rank alone low B side row rows at = front_at rank side (sides_at alone low B row (site_of B.ports row)) (sides_ranks alone low B rows) at

pub sides_behind : (rank alone : ℕ → ℕ) (low : ℕ) (B : Boundary) (side : ℕ) (row : FitRow) (rows : List FitRow) → StandAt rank side (sides_ranks alone low B (row ∷ rows))
    → StandAt rank (side + row_sides B.ports row) (sides_ranks alone low B rows)
sides_behind rank alone low B side row rows at =
    behind_at rank side (row_sides B.ports row) (sides_at alone low B row (site_of B.ports row)) (sides_ranks alone low B rows) (sides_count alone low B row (site_of B.ports row)) at

row_behind : (rank alone : ℕ → ℕ) (low : ℕ) (B : Boundary) (first : ℕ) (row : FitRow) (rows : List FitRow) → StandAt rank first (rows_ranks alone low B (row ∷ rows))
    → StandAt rank (first + nets_of_rows B.ports rows) (row_ranks alone low B row (site_of B.ports row))
row_behind rank alone low B first row rows at =
    behind_at rank first (nets_of_rows B.ports rows) (rows_ranks alone low B rows) (row_ranks alone low B row (site_of B.ports row)) (rows_count alone low B rows) at

pub last_bit_low : (rank alone : ℕ → ℕ) (low : ℕ) (B : Boundary) (first : ℕ) (tdi : NetId) (rows : List FitRow) → StandAt rank first (rows_ranks alone low B rows) → rank tdi.0 ≡ 0
    → rank (last_bit B.ports first tdi rows).0 ≡ 0
last_bit_low rank alone low B first tdi [] at a = a
last_bit_low rank alone low B first tdi (row ∷ rows) at a =
    first_at rank (first + nets_of_rows B.ports rows) 0 (row_ranks alone low B row (site_of B.ports row)) (row_behind rank alone low B first row rows at)
    (levels_first (row_base alone low B row (site_of B.ports row)) row.cell (site_of B.ports row))

pub rows_above : RowsStandAbove → PartsStandAbove → (rank alone : ℕ → ℕ) (low top : ℕ) (B : Boundary) (scan : ScanNets) (first number : ℕ) (tdi : NetId) (side : ℕ) (rows : List FitRow) → top < low
    → IsScanUpTo rank top scan → rank tdi.0 ≡ 0 → StandAt rank first (rows_ranks alone low B rows) → StandAt rank side (sides_ranks alone low B rows)
    → ((k : ℕ) (row : FitRow) → slice_get rows k ≡ Some row → RowFits rank alone low B row (site_of B.ports row)) → AreAbove rank (rows_cells B scan first number tdi side rows)
rows_above law joined rank alone low top B scan first number tdi side [] less up a at sides fits = tt
rows_above law joined rank alone low top B scan first number tdi side (row ∷ rows) less up a at sides fits =
    let before : StandAt rank first (rows_ranks alone low B rows) = front_at rank first (rows_ranks alone low B rows) (row_ranks alone low B row (site_of B.ports row)) at in
    let cells : List CellView = rows_cells B scan first number tdi (side + row_sides B.ports row) rows in
    let next : NetId = last_bit B.ports first tdi rows in
    joined rank cells (row_cells B scan (first + nets_of_rows B.ports rows) (number + length cells) side row next)
    (rows_above law joined rank alone low top B scan first number tdi (side + row_sides B.ports row) rows less up a before (sides_behind rank alone low B side row rows sides)
    (λ k other there. fits (suc k) other there))
    (row_above law joined rank alone low top B scan (first + nets_of_rows B.ports rows) (number + length cells) side row next less up
    (last_bit_low rank alone low B first tdi rows before a) (site_of B.ports row) (row_behind rank alone low B first row rows at) (sides_front rank alone low B side row rows sides) (fits 0 row refl))
