-- A row of the boundary register of any kind: levels and how it stands.
-- The gates of a row stand above one base, and what it gives above what it gives that of. At an inout the base has to
-- be above the pin's net, which stands above what the row gives its driver; so the two are apart.
-- Own: the gates are those of boundary_cells.
use Rattle.std.specs.Prelude.{ℕ, ◌+◌, List, [], ◌∷◌, ⊤}
use Rattle.cell_library.specs.declared.codes.BoundaryKind.{BoundaryKind}
use Rattle.cell_library.specs.declared.codes.BoundaryKind.TheVariants.{Bc2}
use Rattle.netlist_model.specs.declared.NetId.{NetId}
use Rattle.netlist_model.specs.declared.Feed.{Feed}
use Rattle.netlist_model.specs.declared.Feed.TheVariants.{Net}
use Rattle.netlist_model.specs.Formed.{FeedsBelow}
use Rattle.gate_parts.specs.declared.Gate.{Gate}
use Rattle.gate_parts.specs.Levels.{AreFeedsUpTo}
use Rattle.test_logic.specs.declared.ScanNets.{ScanNets}
use Rattle.register_gates.specs.declared.bits.TheConstants.{SHIFT_BIT}
use Rattle.register_gates.specs.Bits.{shift_bit_given}
use Rattle.boundary_cells.specs.declared.tables.TheConstants.{BC_1}
use Rattle.boundary_cells.specs.Cells.{steering_of, stage_table, cell_given}
use Rattle.boundary_cells.specs.ThreeState.{control_table, control_given, bidir_table, bidir_given}
use Rattle.surrounded_core.specs.Rows.{BoundaryRow, observe_row, input_row, output_row, control_row, bidir_row, row_cells}
use Rattle.surrounded_core.specs.Above.{AreAbove, AreRanked}
use Rattle.surrounded_core.specs.Registers.{shift_levels}

-- own: the table of a row's gates, but for what it gives
abbrev pub row_table : BoundaryRow → List Gate
row_table (observe_row pin) = SHIFT_BIT
row_table (input_row pin into) = BC_1
row_table (output_row cell core into) = stage_table cell
row_table (control_row cell core active_high into) = control_table cell
row_table (bidir_row core enable active_high pin into) = bidir_table active_high

-- own: and what is handed to it
abbrev pub row_given : BoundaryRow → ScanNets → NetId → List Feed
row_given (observe_row pin) scan next = shift_bit_given (steering_of scan) (Net pin) next
row_given (input_row pin into) scan next = cell_given scan next (Net pin) scan.m_in
row_given (output_row cell core into) scan next = cell_given scan next core scan.m_out
row_given (control_row cell core active_high into) scan next = control_given scan next core active_high
row_given (bidir_row core enable active_high pin into) scan next = bidir_given scan next core enable pin

abbrev pub bc_1_levels : List ℕ
bc_1_levels = 0 ∷ 2 ∷ 1 ∷ 0 ∷ 1 ∷ []

abbrev pub stage_levels : BoundaryKind → List ℕ
stage_levels Bc2 = 0 ∷ 2 ∷ 1 ∷ 0 ∷ 1 ∷ 1 ∷ []
stage_levels _ = bc_1_levels

abbrev pub control_levels : BoundaryKind → List ℕ
control_levels Bc2 = 0 ∷ 2 ∷ 1 ∷ 0 ∷ 1 ∷ 1 ∷ 1 ∷ []
control_levels _ = 0 ∷ 2 ∷ 1 ∷ 0 ∷ 1 ∷ 1 ∷ []

abbrev pub row_levels : BoundaryRow → List ℕ
row_levels (observe_row pin) = shift_levels
row_levels (input_row pin into) = bc_1_levels
row_levels (output_row cell core into) = stage_levels cell
row_levels (control_row cell core active_high into) = control_levels cell
row_levels (bidir_row core enable active_high pin into) = 0 ∷ 3 ∷ 1 ∷ 0 ∷ 1 ∷ 2 ∷ 1 ∷ []

-- own: the net of a control cell's level while outputs are active
abbrev pub level_net : BoundaryKind → ℕ → ℕ
level_net Bc2 first = first + 6
level_net _ first = first + 5

-- own: what a row gives stands above the nets that it chooses from, which are not its pin's at an inout
abbrev pub GivesAbove : (ℕ → ℕ) → BoundaryRow → ℕ → ScanNets → Type 0
GivesAbove rank (observe_row pin) first scan = ⊤
GivesAbove rank (input_row pin into) first scan = FeedsBelow rank (Net pin ∷ Net (record { 0 = first + 3 }) ∷ Net scan.m_in ∷ []) (rank into.0)
GivesAbove rank (output_row cell core into) first scan = FeedsBelow rank (core ∷ Net (record { 0 = first + 3 }) ∷ Net scan.m_out ∷ []) (rank into.0)
GivesAbove rank (control_row cell core active_high into) first scan = FeedsBelow rank (Net (record { 0 = level_net cell first }) ∷ Net scan.hiz ∷ []) (rank into.0)
GivesAbove rank (bidir_row core enable active_high pin into) first scan = FeedsBelow rank (core ∷ Net (record { 0 = first + 3 }) ∷ Net scan.m_out ∷ []) (rank into.0)

abbrev pub RowsStandAbove : Type 0
RowsStandAbove = (rank : ℕ → ℕ) (row : BoundaryRow) (first number base : ℕ) (scan : ScanNets) (next : NetId) → AreRanked rank first base (row_levels row) (row_table row)
    → AreFeedsUpTo rank base (row_given row scan next) → GivesAbove rank row first scan → AreAbove rank (row_cells row first number scan next)
