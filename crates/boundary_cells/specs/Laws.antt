-- What the boundary cells do, in every well-formed netlist that contains their gates.
-- IEEE Std 1149.1-2001: boundary-scan register, TAP controller (what acts on which edge of TCK, and TRST).
use Rattle.std.specs.Prelude.{◌≡◌, ℕ, ◌+◌, Bool, false, List, if◌then◌else◌}
use Rattle.signal_values.specs.declared.Sig.{Sig}
use Rattle.signal_values.specs.declared.Sig.TheVariants.{Zero}
use Rattle.signal_values.specs.Values.{bit, see}
use Rattle.cell_library.specs.declared.codes.Instr.{Instr}
use Rattle.cell_library.specs.declared.codes.BoundaryKind.{BoundaryKind}
use Rattle.cell_library.specs.declared.codes.BoundaryKind.TheVariants.{Bc1, Bc4}
use Rattle.cell_library.specs.declared.codes.Function.TheVariants.{Input, Output2}
use Rattle.netlist_model.specs.declared.NetId.{NetId}
use Rattle.netlist_model.specs.declared.Feed.{Feed}
use Rattle.netlist_model.specs.Lists.{CellView, NetlistView}
use Rattle.netlist_model.specs.Settled.{feed_value, Meets, IsSettled}
use Rattle.netlist_model.specs.Formed.{IsWellFormed}
use Rattle.netlist_model.specs.Contained.{HasCells}
use Rattle.netlist_model.specs.Runs.{Moment, PinEvent, IsStart, IsStep}
use Rattle.test_logic.specs.declared.Levels.{Levels}
use Rattle.test_logic.specs.declared.Action.{Action}
use Rattle.test_logic.specs.declared.Mode.{Mode}
use Rattle.test_logic.specs.declared.ScanNets.{ScanNets}
use Rattle.test_logic.specs.Controller.{act}
use Rattle.test_logic.specs.Instructions.{mode_of, is_extest}
use Rattle.test_logic.specs.Rows.{CellAt, datum, input_into, row_captured}
use Rattle.register_gates.specs.BitsLaws.{Carries, Steers, bit_after}
use Rattle.boundary_cells.specs.Cells.{steering_of, observe_cells, input_cells, output_cells}

-- own: the nets of the modes say what the instruction in effect makes of the cells
pub record CarriesMode (scan : ScanNets) (instruction : Instr) (value : ℕ → Sig) : Type 0 where
  pub extest : value scan.extest.0 ≡ bit (is_extest instruction)
  pub m_out : value scan.m_out.0 ≡ bit (mode_of instruction).m_out
  pub m_in : value scan.m_in.0 ≡ bit (mode_of instruction).m_in
  pub hiz : value scan.hiz.0 ≡ bit (mode_of instruction).hiz

-- own: what a shift bit does, on this net, by what the cell captures; `Stands` says what stands at the cell
pub record ShiftLaws (cells : List CellView) (scan : ScanNets) (shift : ℕ) (next : NetId) (captured : Instr → CellAt → Sig)
    (Stands : Instr → (ℕ → Sig) → CellAt → Type 0) : Type 0 where
  -- where TRST is 0 at a start, the bit is 0
  pub start : (N : NetlistView) (given : ℕ → Sig) (levels : Levels) (m : Moment) → IsWellFormed N → HasCells N cells → IsStart N given m
      → Carries scan.tck scan.trst levels m → levels.trst ≡ false → m.value shift ≡ Zero
  -- a rising edge takes what the cell captures, the next bit, or what was there; TRST at 0 clears
  pub step : (N : NetlistView) (event : PinEvent) (action : Action) (instruction : Instr) (c : CellAt) (before after : Levels) (m m' : Moment)
      → IsWellFormed N → HasCells N cells → IsSettled N m.pins m.state m.value → IsStep N event m m'
      → Carries scan.tck scan.trst before m → Carries scan.tck scan.trst after m' → Steers (steering_of scan) action m
      → CarriesMode scan instruction m.value → Stands instruction m.value c
      → m'.value shift ≡ bit_after before after Zero (act action (captured instruction c) (m.value next.0) (m.value shift)) (m.value shift) (m.value shift)

-- own: what an update bit does, on this net, behind its shift bit
pub record UpdateLaws (cells : List CellView) (scan : ScanNets) (shift update : ℕ) : Type 0 where
  -- where TRST is 0 at a start, the bit is 0
  pub start : (N : NetlistView) (given : ℕ → Sig) (levels : Levels) (m : Moment) → IsWellFormed N → HasCells N cells → IsStart N given m
      → Carries scan.tck scan.trst levels m → levels.trst ≡ false → m.value update ≡ Zero
  -- a falling edge takes the shift bit, where the register updates; TRST at 0 clears
  pub step : (N : NetlistView) (event : PinEvent) (updates : Bool) (before after : Levels) (m m' : Moment) → IsWellFormed N → HasCells N cells
      → IsSettled N m.pins m.state m.value → IsStep N event m m' → Carries scan.tck scan.trst before m → Carries scan.tck scan.trst after m'
      → m.value scan.update.0 ≡ bit updates
      → m'.value update ≡ bit_after before after Zero (m.value update) (if updates then m.value shift else m.value update) (m.value update)

-- own: what the cell gives a net, by what stands at the cell, under any rule for the nets of pins
pub record IntoLaws (A : Type 0) (cells : List CellView) (scan : ScanNets) (into : NetId) (gives : Mode → A → Sig)
    (Stands : (ℕ → Sig) → A → Type 0) : Type 0 where
  pub into_is : (N : NetlistView) (rule : (ℕ → Sig) → ℕ → Sig) (state value : ℕ → Sig) (instruction : Instr) (c : A) → IsWellFormed N → HasCells N cells
      → Meets N rule state value → CarriesMode scan instruction value → Stands value c → value into.0 ≡ gives (mode_of instruction) c

-- own: the pin is seen on this net
pub record StandsAtPin (pin : NetId) (value : ℕ → Sig) (c : CellAt) : Type 0 where
  pub seen : see c.outside ≡ value pin.0

-- own: and the update bit is on this one
pub record StandsAtInput (update : ℕ) (pin : NetId) (value : ℕ → Sig) (c : CellAt) : Type 0 where
  pub upd : c.upd ≡ value update
  pub seen : see c.outside ≡ value pin.0

-- own: the update bit is on this net, and the core gives this
pub record StandsAtOutput (update : ℕ) (core : Feed) (value : ℕ → Sig) (c : CellAt) : Type 0 where
  pub upd : c.upd ≡ value update
  pub core_is : c.core ≡ feed_value value core

-- own: wherever a BC_4 was added
abbrev pub ObserveCellsFollow : Type 0
ObserveCellsFollow = (first number : ℕ) (scan : ScanNets) (pin next : NetId)
    → ShiftLaws (observe_cells first number scan pin next) scan first next (row_captured Bc4 Input) (λ instruction. StandsAtPin pin)

-- own: what a BC_1 at an input does
pub record InputLaws (first number : ℕ) (scan : ScanNets) (pin into next : NetId) : Type 0 where
  pub shift : ShiftLaws (input_cells first number scan pin into next) scan first next (row_captured Bc1 Input) (λ instruction. StandsAtInput (first + 3) pin)
  pub update : UpdateLaws (input_cells first number scan pin into next) scan first (first + 3)
  pub core : IntoLaws CellAt (input_cells first number scan pin into next) scan into (input_into Bc1) (StandsAtInput (first + 3) pin)

abbrev pub InputCellsFollow : Type 0
InputCellsFollow = (first number : ℕ) (scan : ScanNets) (pin into next : NetId) → InputLaws first number scan pin into next

-- own: what a cell at an output does
pub record OutputLaws (cell : BoundaryKind) (first number : ℕ) (scan : ScanNets) (core : Feed) (into next : NetId) : Type 0 where
  pub shift : ShiftLaws (output_cells cell first number scan core into next) scan first next (row_captured cell Output2) (λ instruction. StandsAtOutput (first + 3) core)
  pub update : UpdateLaws (output_cells cell first number scan core into next) scan first (first + 3)
  pub pin : IntoLaws CellAt (output_cells cell first number scan core into next) scan into datum (StandsAtOutput (first + 3) core)

abbrev pub OutputCellsFollow : Type 0
OutputCellsFollow = (cell : BoundaryKind) (first number : ℕ) (scan : ScanNets) (core : Feed) (into next : NetId) → OutputLaws cell first number scan core into next
