-- The gates of a row of the boundary register: what they drive, and what they read.
use Rattle.std.proofs.Common.{◌≡◌, ℕ, zero, suc, ◌+◌, ◌<◌, true, false, IsTrue, List, [], ◌∷◌, ◌++◌, length, refl, ap, sym, ◌∙◌, arith, Some}
use Rattle.std.specs.Prelude.{slice_get}
use Rattle.list_laws.proofs.Lists.{slice_get-append_left, slice_get-append_right}
use Rattle.cell_library.specs.declared.codes.BoundaryKind.TheVariants.{Bc1, Bc2, Bc4, Bc7}
use Rattle.netlist_model.specs.declared.NetId.{NetId}
use Rattle.netlist_model.specs.declared.Feed.{Feed}
use Rattle.netlist_model.specs.declared.Feed.TheVariants.{Net}
use Rattle.netlist_model.specs.Lists.{CellView, NetlistView}
use Rattle.gate_parts.specs.declared.Gate.{Gate}
use Rattle.gate_parts.specs.Parts.{feed_of, part_cells}
use Rattle.gate_parts.proofs.Steps.{length-cells_from}
use Rattle.test_logic.specs.declared.ScanNets.{ScanNets}
use Rattle.surrounded_core.specs.register_gates.declared.bits.TheConstants.{SHIFT_BIT}
use Rattle.surrounded_core.specs.register_gates.Bits.{shift_bit_given}
use Rattle.surrounded_core.specs.boundary_cells.declared.tables.Choice.{Choice}
use Rattle.surrounded_core.specs.boundary_cells.declared.tables.TheConstants.{BC_1, UPDATES}
use Rattle.surrounded_core.specs.boundary_cells.Cells.{steering_of, is_sound_choice, choice_cell, cells_onto, stage_table, cell_given}
use Rattle.surrounded_core.specs.boundary_cells.ThreeState.{control_table, control_choice, control_given, bidir_table, bidir_given}
use Rattle.surrounded_core.specs.Rows.{BoundaryRow, observe_row, input_row, output_row, control_row, bidir_row, row_cells}
use Rattle.surrounded_core.specs.LevelsRows.{row_table, row_given}
use Rattle.plan_fitting.specs.declared.fitted.FitRow.{FitRow}
use Rattle.stitched_netlist.specs.declared.model.Site.{Site}
use Rattle.stitched_netlist.specs.declared.model.Site.TheVariants as site
use Rattle.stitched_netlist.specs.Sites.{Boundary, site_of}
use Rattle.stitched_netlist.specs.ModelRows.{nets_by, net_at, enable_of, is_active_high}
use Rattle.stitched_netlist.specs.Sides.{core_feed}
use Rattle.stitched_netlist.specs.Stitched.{boundary_at}
use Rattle.stitched_netlist.specs.PlacesLaws.{scan_of, row_first, row_side, row_number, row_next, handed_at, drivers_at}
use Rattle.stitched_netlist.specs.CellsLaws.{driver_number}
use Rattle.stitched_netlist.specs.Gates.{EachCell, FeedsAre, IsLogicCell, is_logic_table}
use Rattle.stitched_netlist.specs.CellsLogic.{into_at, RowDrives}
use Rattle.stitched_netlist.proofs.Tables.{each_append, turn_at, feed_cons, pin_feed, table_turn, table_logic}
use Rattle.stitched_netlist.proofs.Sizes.{bidir_length}
use Rattle.plan_fitting.specs.declared.fitted.Fitted.{Fitted}

-- What they drive.

part_drives : (gates : List Gate) (given : List Feed) (first number : ℕ) (rest : List CellView) (j : ℕ) (cell : CellView)
    → slice_get (part_cells gates given first number ++ rest) j ≡ Some cell → j < length gates → cell.output ≡ Some (record { 0 = first + j })
part_drives gates given first number rest j cell at below =
    let cells = part_cells gates given first number in
    let many : length cells ≡ length gates = length-cells_from first given number first gates in
    turn_at first cells j cell (table_turn gates given first number) (sym (slice_get-append_left cells rest j (omega arith)) ∙ at)

own_drives : (gates : List Gate) (choice : Choice) (given : List Feed) (first number : ℕ) (into : NetId) (j : ℕ) (cell : CellView)
    → slice_get (cells_onto gates choice given first number into) j ≡ Some cell → j < length gates → cell.output ≡ Some (record { 0 = first + j })
own_drives gates choice given first number into j cell at below =
    part_drives gates given first number (choice_cell first given (number + length gates) into choice ∷ []) j cell at below

choice_drives : (gates : List Gate) (choice : Choice) (given : List Feed) (first number : ℕ) (into : NetId) (j : ℕ) (cell : CellView)
    → slice_get (cells_onto gates choice given first number into) j ≡ Some cell → j ≡ length gates → cell.output ≡ Some into
choice_drives gates choice given first number into j cell at is =
    let cells = part_cells gates given first number in
    let last : CellView = choice_cell first given (number + length gates) into choice in
    let many : length cells ≡ length gates = length-cells_from first given number first gates in
    let there : slice_get (cells ++ last ∷ []) j ≡ Some last = slice_get-append_right cells (last ∷ []) j 0 (omega arith) in
    let same : Some last ≡ Some cell = sym there ∙ at in
    let one : last ≡ cell = cc in
    ap (λ (c : CellView). c.output) (sym one)

own_by : (B : Boundary) (scan : ScanNets) (first number side : ℕ) (row : FitRow) (next : NetId) (at : Site) (j : ℕ) (cell : CellView)
    → slice_get (row_cells (handed_at B side row at) first number scan next) j ≡ Some cell → j < nets_by at row.cell → cell.output ≡ Some (record { 0 = first + j })
own_by B scan first number side row next site.Observed j cell e below =
    turn_at first (row_cells (observe_row (net_at B row)) first number scan next) j cell (table_turn SHIFT_BIT (shift_bit_given (steering_of scan) (Net (net_at B row)) next) first number) e
own_by B scan first number side row next site.Input j cell e below =
    own_drives BC_1 UPDATES (cell_given scan next (Net (net_at B row)) scan.m_in) first number (record { 0 = side }) j cell e below
own_by B scan first number side row next site.Output j cell e below =
    own_drives (stage_table row.cell) UPDATES (cell_given scan next (Net (record { 0 = side })) scan.m_out) first number (net_at B row) j cell e below
own_by B scan first number side row next site.AddedDriver j cell e below =
    own_drives (stage_table row.cell) UPDATES (cell_given scan next (Net (record { 0 = side })) scan.m_out) first number (record { 0 = side + 1 }) j cell e below
own_by B scan first number side row next site.Driver j cell e below =
    own_drives (stage_table row.cell) UPDATES (cell_given scan next (core_feed B row) scan.m_out) first number (record { 0 = side }) j cell e below
own_by B scan first number side row next site.Inout j cell e below =
    let seven = bidir_length (is_active_high B row) in
    own_drives (bidir_table (is_active_high B row)) UPDATES (bidir_given scan next (core_feed B row) (enable_of B row) (net_at B row)) first number (record { 0 = side }) j cell e (omega arith)
own_by B scan first number side row next site.Control j cell e below =
    own_drives (control_table row.cell) (control_choice row.cell) (control_given scan next (core_feed B row) row.active_high) first number (record { 0 = side }) j cell e below

into_by : (B : Boundary) (scan : ScanNets) (first number side : ℕ) (row : FitRow) (next : NetId) (at : Site) (cell : CellView)
    → slice_get (row_cells (handed_at B side row at) first number scan next) (nets_by at row.cell) ≡ Some cell → cell.output ≡ Some (into_at B side row at)
into_by B scan first number side row next site.Observed cell e = absurd (cc)
into_by B scan first number side row next site.Input cell e =
    choice_drives BC_1 UPDATES (cell_given scan next (Net (net_at B row)) scan.m_in) first number (record { 0 = side }) 5 cell e refl
into_by B scan first number side row next site.Output cell e =
    choice_drives (stage_table row.cell) UPDATES (cell_given scan next (Net (record { 0 = side })) scan.m_out) first number (net_at B row) (nets_by site.Output row.cell) cell e refl
into_by B scan first number side row next site.AddedDriver cell e =
    choice_drives (stage_table row.cell) UPDATES (cell_given scan next (Net (record { 0 = side })) scan.m_out) first number (record { 0 = side + 1 }) (nets_by site.AddedDriver row.cell) cell e refl
into_by B scan first number side row next site.Driver cell e =
    choice_drives (stage_table row.cell) UPDATES (cell_given scan next (core_feed B row) scan.m_out) first number (record { 0 = side }) (nets_by site.Driver row.cell) cell e refl
into_by B scan first number side row next site.Inout cell e =
    let seven = bidir_length (is_active_high B row) in
    choice_drives (bidir_table (is_active_high B row)) UPDATES (bidir_given scan next (core_feed B row) (enable_of B row) (net_at B row)) first number (record { 0 = side }) 7 cell e (sym seven)
into_by B scan first number side row next site.Control cell e =
    choice_drives (control_table row.cell) (control_choice row.cell) (control_given scan next (core_feed B row) row.active_high) first number (record { 0 = side }) (nets_by site.Control row.cell) cell e refl

driver_by : (B : Boundary) (number side : ℕ) (row : FitRow) (at : Site) (j : ℕ) (cell : CellView) → slice_get (drivers_at B number side row at) j ≡ Some cell → cell.output ≡ Some (net_at B row)
driver_by B number side row site.Observed j cell e = absurd (cc)
driver_by B number side row site.Input j cell e = absurd (cc)
driver_by B number side row site.Output j cell e = absurd (cc)
driver_by B number side row site.AddedDriver zero cell e = cc
driver_by B number side row site.AddedDriver (suc j) cell e = absurd (cc)
driver_by B number side row site.Driver j cell e = absurd (cc)
driver_by B number side row site.Inout j cell e = absurd (cc)
driver_by B number side row site.Control j cell e = absurd (cc)

pub rows_drive : (N : NetlistView) (f : Fitted) (k : ℕ) (row : FitRow) → RowDrives N f k row
rows_drive N f k row = record {
  own = λ j cell e below. own_by (boundary_at N f) (scan_of N f) (row_first N f k) (row_number N f k) (row_side N f k) row (row_next N f k) (site_of N.ports row) j cell e below;
  into = λ cell e. into_by (boundary_at N f) (scan_of N f) (row_first N f k) (row_number N f k) (row_side N f k) row (row_next N f k) (site_of N.ports row) cell e;
  driver = λ j cell e. driver_by (boundary_at N f) (driver_number N f k row) (row_side N f k) row (site_of N.ports row) j cell e;
}

-- What they read.

choice_logic : (tck trst : NetId) (P : ℕ → Type 0) (gates : List Gate) (choice : Choice) (given : List Feed) (first number : ℕ) (into : NetId)
    → is_sound_choice (length gates) (length given) choice → FeedsAre P given → ((j : ℕ) → j < length gates → P (first + j))
    → IsLogicCell tck trst P (choice_cell first given number into choice)
choice_logic tck trst P gates choice given first number into sound are own = record {
  takes = λ library. refl;
  two_state = refl;
  reads = feed_cons P (feed_of first given choice.usual) _ (pin_feed P first (length gates) given choice.usual own are sound.0)
      (feed_cons P (feed_of first given choice.other) _ (pin_feed P first (length gates) given choice.other own are sound.1)
      (pin_feed P first (length gates) given choice.select own are sound.2));
  clock = λ flop. absurd (cc);
  reset = λ flop. absurd (cc);
}

onto_logic : (tck trst : NetId) (P : ℕ → Type 0) (gates : List Gate) (choice : Choice) (given : List Feed) (first number : ℕ) (into : NetId)
    → IsTrue (is_logic_table gates (length given) 0 1) → is_sound_choice (length gates) (length given) choice → slice_get given 0 ≡ Some (Net tck) → slice_get given 1 ≡ Some (Net trst)
    → FeedsAre P given → ((j : ℕ) → j < length gates → P (first + j)) → EachCell (IsLogicCell tck trst P) (cells_onto gates choice given first number into)
onto_logic tck trst P gates choice given first number into right sound clock reset are own =
    each_append (IsLogicCell tck trst P) (part_cells gates given first number) (choice_cell first given (number + length gates) into choice ∷ [])
    (table_logic gates given first number 0 1 tck trst P right clock reset are own)
    (choice_logic tck trst P gates choice given first (number + length gates) into sound are own, tt)

pub row_logic : (row : BoundaryRow) (first number : ℕ) (scan : ScanNets) (next : NetId) (P : ℕ → Type 0) → FeedsAre P (row_given row scan next)
    → ((j : ℕ) → j < length (row_table row) → P (first + j)) → EachCell (IsLogicCell scan.tck scan.trst P) (row_cells row first number scan next)
row_logic (observe_row pin) first number scan next P are own =
    table_logic SHIFT_BIT (shift_bit_given (steering_of scan) (Net pin) next) first number 0 1 scan.tck scan.trst P refl refl refl are own
row_logic (input_row pin into) first number scan next P are own =
    onto_logic scan.tck scan.trst P BC_1 UPDATES (cell_given scan next (Net pin) scan.m_in) first number into refl (refl, refl, refl) refl refl are own
row_logic (output_row Bc1 core into) first number scan next P are own =
    onto_logic scan.tck scan.trst P (stage_table Bc1) UPDATES (cell_given scan next core scan.m_out) first number into refl (refl, refl, refl) refl refl are own
row_logic (output_row Bc2 core into) first number scan next P are own =
    onto_logic scan.tck scan.trst P (stage_table Bc2) UPDATES (cell_given scan next core scan.m_out) first number into refl (refl, refl, refl) refl refl are own
row_logic (output_row Bc4 core into) first number scan next P are own =
    onto_logic scan.tck scan.trst P (stage_table Bc4) UPDATES (cell_given scan next core scan.m_out) first number into refl (refl, refl, refl) refl refl are own
row_logic (output_row Bc7 core into) first number scan next P are own =
    onto_logic scan.tck scan.trst P (stage_table Bc7) UPDATES (cell_given scan next core scan.m_out) first number into refl (refl, refl, refl) refl refl are own
row_logic (control_row Bc1 core active_high into) first number scan next P are own =
    onto_logic scan.tck scan.trst P (control_table Bc1) (control_choice Bc1) (control_given scan next core active_high) first number into refl (refl, refl, refl) refl refl are own
row_logic (control_row Bc2 core active_high into) first number scan next P are own =
    onto_logic scan.tck scan.trst P (control_table Bc2) (control_choice Bc2) (control_given scan next core active_high) first number into refl (refl, refl, refl) refl refl are own
row_logic (control_row Bc4 core active_high into) first number scan next P are own =
    onto_logic scan.tck scan.trst P (control_table Bc4) (control_choice Bc4) (control_given scan next core active_high) first number into refl (refl, refl, refl) refl refl are own
row_logic (control_row Bc7 core active_high into) first number scan next P are own =
    onto_logic scan.tck scan.trst P (control_table Bc7) (control_choice Bc7) (control_given scan next core active_high) first number into refl (refl, refl, refl) refl refl are own
row_logic (bidir_row core enable true pin into) first number scan next P are own =
    onto_logic scan.tck scan.trst P (bidir_table true) UPDATES (bidir_given scan next core enable pin) first number into refl (refl, refl, refl) refl refl are own
row_logic (bidir_row core enable false pin into) first number scan next P are own =
    onto_logic scan.tck scan.trst P (bidir_table false) UPDATES (bidir_given scan next core enable pin) first number into refl (refl, refl, refl) refl refl are own
