-- Each kind of row.
use Rattle.std.proofs.Common.{ℕ, ◌+◌, Bool, true, false, List, [], ◌∷◌, length, refl, IsTrue}
use Rattle.cell_library.specs.declared.codes.BoundaryKind.{BoundaryKind}
use Rattle.cell_library.specs.declared.codes.BoundaryKind.TheVariants.{Bc1, Bc2, Bc4, Bc7}
use Rattle.netlist_model.specs.declared.NetId.{NetId}
use Rattle.netlist_model.specs.declared.Feed.{Feed}
use Rattle.netlist_model.specs.declared.Feed.TheVariants.{Net}
use Rattle.gate_parts.specs.declared.Gate.{Gate}
use Rattle.gate_parts.specs.Parts.{part_cells}
use Rattle.gate_parts.specs.Levels.{AreFeedsUpTo}
use Rattle.test_logic.specs.declared.ScanNets.{ScanNets}
use Rattle.register_gates.specs.declared.bits.TheConstants.{SHIFT_BIT}
use Rattle.register_gates.specs.Bits.{shift_bit_given}
use Rattle.boundary_cells.specs.declared.tables.Choice.{Choice}
use Rattle.boundary_cells.specs.declared.tables.TheConstants.{BC_1, UPDATES}
use Rattle.boundary_cells.specs.Cells.{steering_of, choice_cell, cells_onto, stage_table, cell_given}
use Rattle.boundary_cells.specs.ThreeState.{control_table, control_choice, control_given, bidir_table, bidir_given}
use Rattle.surrounded_core.specs.Rows.{observe_row, input_row, output_row, control_row, bidir_row}
use Rattle.surrounded_core.specs.Above.{IsAbove, AreAbove, AreRanked, fits}
use Rattle.surrounded_core.specs.Registers.{shift_levels}
use Rattle.surrounded_core.specs.LevelsRows.{bc_1_levels, stage_levels, control_levels, row_levels, GivesAbove, RowsStandAbove}
use Rattle.surrounded_core.proofs.Above.{tables, joined}

onto : (rank : ℕ → ℕ) (first number base : ℕ) (levels : List ℕ) (gates : List Gate) (choice : Choice) (given : List Feed) (into : NetId) → IsTrue (fits levels gates)
    → AreRanked rank first base levels gates → AreFeedsUpTo rank base given → IsAbove rank (choice_cell first given (number + length gates) into choice)
    → AreAbove rank (cells_onto gates choice given first number into)
onto rank first number base levels gates choice given into low ranked up above =
    joined rank (part_cells gates given first number) (choice_cell first given (number + length gates) into choice ∷ [])
    (tables rank first number base levels gates given low ranked up) (above, tt)

stage_fits : (cell : BoundaryKind) → IsTrue (fits (stage_levels cell) (stage_table cell))
stage_fits Bc1 = refl
stage_fits Bc2 = refl
stage_fits Bc4 = refl
stage_fits Bc7 = refl

bidir_fits : (active_high : Bool) → IsTrue (fits (0 ∷ 3 ∷ 1 ∷ 0 ∷ 1 ∷ 2 ∷ 1 ∷ []) (bidir_table active_high))
bidir_fits true = refl
bidir_fits false = refl

control : (cell : BoundaryKind) (rank : ℕ → ℕ) (core : Feed) (active_high : Bool) (into : NetId) (first number base : ℕ) (scan : ScanNets) (next : NetId)
    → AreRanked rank first base (control_levels cell) (control_table cell) → AreFeedsUpTo rank base (control_given scan next core active_high)
    → GivesAbove rank (control_row cell core active_high into) first scan
    → AreAbove rank (cells_onto (control_table cell) (control_choice cell) (control_given scan next core active_high) first number into)
control Bc1 rank core active_high into first number base scan next ranked up gives =
    onto rank first number base (control_levels Bc1) (control_table Bc1) (control_choice Bc1) (control_given scan next core active_high) into refl ranked up (λ is. gives)
control Bc2 rank core active_high into first number base scan next ranked up gives =
    onto rank first number base (control_levels Bc2) (control_table Bc2) (control_choice Bc2) (control_given scan next core active_high) into refl ranked up (λ is. gives)
control Bc4 rank core active_high into first number base scan next ranked up gives =
    onto rank first number base (control_levels Bc4) (control_table Bc4) (control_choice Bc4) (control_given scan next core active_high) into refl ranked up (λ is. gives)
control Bc7 rank core active_high into first number base scan next ranked up gives =
    onto rank first number base (control_levels Bc7) (control_table Bc7) (control_choice Bc7) (control_given scan next core active_high) into refl ranked up (λ is. gives)

pub rows : RowsStandAbove
rows rank (observe_row pin) first number base scan next ranked up gives =
    tables rank first number base shift_levels SHIFT_BIT (shift_bit_given (steering_of scan) (Net pin) next) refl ranked up
rows rank (input_row pin into) first number base scan next ranked up gives =
    onto rank first number base bc_1_levels BC_1 UPDATES (cell_given scan next (Net pin) scan.m_in) into refl ranked up (λ is. gives)
rows rank (output_row cell core into) first number base scan next ranked up gives =
    onto rank first number base (stage_levels cell) (stage_table cell) UPDATES (cell_given scan next core scan.m_out) into (stage_fits cell) ranked up (λ is. gives)
rows rank (control_row cell core active_high into) first number base scan next ranked up gives =
    control cell rank core active_high into first number base scan next ranked up gives
rows rank (bidir_row core enable active_high pin into) first number base scan next ranked up gives =
    onto rank first number base (row_levels (bidir_row core enable active_high pin into)) (bidir_table active_high) UPDATES (bidir_given scan next core enable pin) into
    (bidir_fits active_high) ranked up (λ is. gives)
