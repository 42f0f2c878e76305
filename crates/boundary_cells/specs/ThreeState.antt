-- The gates of the cells at a three-state driver, and what they do, in every well-formed netlist that contains them.
-- IEEE Std 1149.1-2001: boundary-scan register, the annex on BSDL (control cells and BC_7); the gates are own.
use Rattle.std.specs.Prelude.{◌≡◌, ℕ, ◌+◌, not, Bool, true, false, List, [], ◌∷◌, ◌++◌, length, Some}
use Rattle.signal_values.specs.declared.Sig.{Sig}
use Rattle.signal_values.specs.Values.{see}
use Rattle.cell_library.specs.declared.codes.Instr.{Instr}
use Rattle.cell_library.specs.declared.codes.BoundaryKind.{BoundaryKind}
use Rattle.cell_library.specs.declared.codes.BoundaryKind.TheVariants.{Bc2, Bc7}
use Rattle.cell_library.specs.declared.codes.Function.TheVariants.{Control, Bidir}
use Rattle.netlist_model.specs.declared.NetId.{NetId}
use Rattle.netlist_model.specs.declared.Feed.{Feed}
use Rattle.netlist_model.specs.declared.Feed.TheVariants.{Net, Const}
use Rattle.netlist_model.specs.Lists.{CellView}
use Rattle.netlist_model.specs.Settled.{feed_value}
use Rattle.gate_parts.specs.declared.Gate.{Gate}
use Rattle.test_logic.specs.declared.ScanNets.{ScanNets}
use Rattle.test_logic.specs.Instructions.{mode_of}
use Rattle.test_logic.specs.Rows.{ControlAt, CellAt, datum, level, row_reading, row_captured}
use Rattle.boundary_cells.specs.declared.tables.Choice.{Choice}
use Rattle.boundary_cells.specs.declared.tables.TheConstants.{BC_1_CONTROL, BC_2_CONTROL, BC_7_HIGH, BC_7_LOW, UPDATES, BC_1_LEVEL, BC_2_LEVEL}
use Rattle.boundary_cells.specs.Cells.{cells_onto, cell_given}
use Rattle.boundary_cells.specs.Laws.{ShiftLaws, UpdateLaws, IntoLaws, StandsAtOutput}

-- own: the table of a control cell, and what it gives
abbrev pub control_table : BoundaryKind → List Gate
control_table Bc2 = BC_2_CONTROL
control_table _ = BC_1_CONTROL

abbrev pub control_choice : BoundaryKind → Choice
control_choice Bc2 = BC_2_LEVEL
control_choice _ = BC_1_LEVEL

abbrev pub control_count : BoundaryKind → ℕ
control_count cell = length (control_table cell)

-- own: what is handed to it: the inactive level is 0 where the driver is active high
abbrev pub control_given : ScanNets → NetId → Feed → Bool → List Feed
control_given scan next core active_high = cell_given scan next core scan.m_out ++ Const (not active_high) ∷ Net scan.hiz ∷ []

-- own: its cells, where the nets that are added begin at `first` and the cells' numbers at `number`
abbrev pub control_cells : BoundaryKind → ℕ → ℕ → ScanNets → Feed → Bool → NetId → NetId → List CellView
control_cells cell first number scan core active_high into next =
    cells_onto (control_table cell) (control_choice cell) (control_given scan next core active_high) first number into

-- own: the table of a BC_7, by the level of the control that enables its driver
abbrev pub bidir_table : Bool → List Gate
bidir_table true = BC_7_HIGH
bidir_table false = BC_7_LOW

abbrev pub bidir_given : ScanNets → NetId → Feed → Feed → NetId → List Feed
bidir_given scan next core enable pin = cell_given scan next core scan.m_out ++ Net pin ∷ enable ∷ []

abbrev pub bidir_cells : ℕ → ℕ → ScanNets → Feed → Feed → Bool → NetId → NetId → NetId → List CellView
bidir_cells first number scan core enable active_high pin into next =
    cells_onto (bidir_table active_high) UPDATES (bidir_given scan next core enable pin) first number into

-- own: what stands at a control cell: the level that disables its drivers, the update bit on this net, and
-- what the core gives
pub record StandsAtControl (active_high : Bool) (update : ℕ) (core : Feed) (value : ℕ → Sig) (j : ControlAt) : Type 0 where
  pub disable : j.disable ≡ not active_high
  pub upd : j.upd ≡ value update
  pub core_is : j.core ≡ feed_value value core

-- own: what a control cell does
pub record ControlLaws (cell : BoundaryKind) (first number : ℕ) (scan : ScanNets) (core : Feed) (active_high : Bool) (into next : NetId) : Type 0 where
  pub shift : ShiftLaws (control_cells cell first number scan core active_high into next) scan first next (row_captured cell Control)
      (λ instruction. StandsAtOutput (first + 3) core)
  pub update : UpdateLaws (control_cells cell first number scan core active_high into next) scan first (first + 3)
  pub drivers : IntoLaws ControlAt (control_cells cell first number scan core active_high into next) scan into level (StandsAtControl active_high (first + 3) core)

abbrev pub ControlCellsFollow : Type 0
ControlCellsFollow = (cell : BoundaryKind) (first number : ℕ) (scan : ScanNets) (core : Feed) (active_high : Bool) (into next : NetId)
    → ControlLaws cell first number scan core active_high into next

-- own: what stands at an inout besides: the core's control of its driver, and the net on which its reading is seen
pub record StandsAtInout (active_high : Bool) (update : ℕ) (core enable : Feed) (pin : NetId) (instruction : Instr) (value : ℕ → Sig) (c : CellAt) : Type 0 where
  pub output : StandsAtOutput update core value c
  pub driver : ControlAt
  pub driver_is : c.control ≡ Some driver
  pub disable : driver.disable ≡ not active_high
  pub enable_is : driver.core ≡ feed_value value enable
  pub seen : see (row_reading Bidir (mode_of instruction) c) ≡ value pin.0

-- own: what a BC_7 does
pub record BidirLaws (first number : ℕ) (scan : ScanNets) (core enable : Feed) (active_high : Bool) (pin into next : NetId) : Type 0 where
  pub shift : ShiftLaws (bidir_cells first number scan core enable active_high pin into next) scan first next (row_captured Bc7 Bidir)
      (StandsAtInout active_high (first + 3) core enable pin)
  pub update : UpdateLaws (bidir_cells first number scan core enable active_high pin into next) scan first (first + 3)
  pub driver : IntoLaws CellAt (bidir_cells first number scan core enable active_high pin into next) scan into datum (StandsAtOutput (first + 3) core)

abbrev pub BidirCellsFollow : Type 0
BidirCellsFollow = (first number : ℕ) (scan : ScanNets) (core enable : Feed) (active_high : Bool) (pin into next : NetId)
    → BidirLaws first number scan core enable active_high pin into next
