-- A row of the boundary register as gates, of any kind: its cells, what it is handed, and what it gives.
-- IEEE Std 1149.1-2001: boundary-scan register, the annex on BSDL (the cells BC_1, BC_2, BC_4 and BC_7).
use Rattle.std.specs.Prelude.{◌≡◌, ℕ, ◌+◌, not, Bool, List, Some, slice_get}
use Rattle.signal_values.specs.declared.Sig.{Sig}
use Rattle.signal_values.specs.declared.Sig.TheVariants.{Zero}
use Rattle.signal_values.specs.Values.{bit, see}
use Rattle.cell_library.specs.declared.codes.BoundaryKind.{BoundaryKind}
use Rattle.cell_library.specs.declared.codes.BoundaryKind.TheVariants.{Bc1, Bc2, Bc4, Bc7}
use Rattle.cell_library.specs.declared.codes.Function.{Function}
use Rattle.cell_library.specs.declared.codes.Function.TheVariants.{Input, Output2, Control, Bidir}
use Rattle.netlist_model.specs.declared.NetId.{NetId}
use Rattle.netlist_model.specs.declared.Feed.{Feed}
use Rattle.netlist_model.specs.Lists.{CellView}
use Rattle.netlist_model.specs.Settled.{feed_value}
use Rattle.netlist_model.specs.Runs.{Moment}
use Rattle.test_logic.specs.declared.Levels.{Levels}
use Rattle.test_logic.specs.declared.Mode.{Mode}
use Rattle.test_logic.specs.declared.ScanNets.{ScanNets}
use Rattle.test_logic.specs.Registers.{shifted}
use Rattle.test_logic.specs.Machine.{TestLogic, Machine, in_effect}
use Rattle.test_logic.specs.Rows.{ControlAt, CellAt, datum, level, input_into, row_reading}
use Rattle.register_gates.specs.BitsLaws.{Carries, Steers}
use Rattle.boundary_cells.specs.Cells.{steering_of, observe_cells, input_cells, output_cells}
use Rattle.boundary_cells.specs.ThreeState.{control_cells, bidir_cells}
use Rattle.boundary_cells.specs.Laws.{CarriesMode}
use Rattle.boundary_cells.specs.MachineRows.{bit_at, boundary_action, boundary_updates}

-- own: a row by its kind, with what it is handed beside what steers it, and last the net that it gives a value
pub data BoundaryRow : Type 0 where
  -- a BC_4 at this pin, which gives nothing
  observe_row : NetId → BoundaryRow
  -- a BC_1 at this pin of an input, which gives the core's net its value
  input_row : NetId → NetId → BoundaryRow
  -- a BC_2, or else a BC_1, of an output, for this value of the core
  output_row : BoundaryKind → Feed → NetId → BoundaryRow
  -- a control cell, a BC_2 or else a BC_1, for this control of the core, of drivers that 1 enables, or else 0
  control_row : BoundaryKind → Feed → Bool → NetId → BoundaryRow
  -- a BC_7, for this value and this control of the core, of a driver that 1 enables, or else 0, at this pin
  bidir_row : Feed → Feed → Bool → NetId → NetId → BoundaryRow

-- own: its cells, where its nets begin at `first` and its cells' numbers at `number`
abbrev pub row_cells : BoundaryRow → ℕ → ℕ → ScanNets → NetId → List CellView
row_cells (observe_row pin) first number scan next = observe_cells first number scan pin next
row_cells (input_row pin into) first number scan next = input_cells first number scan pin into next
row_cells (output_row cell core into) first number scan next = output_cells cell first number scan core into next
row_cells (control_row cell core active_high into) first number scan next = control_cells cell first number scan core active_high into next
row_cells (bidir_row core enable active_high pin into) first number scan next = bidir_cells first number scan core enable active_high pin into next

-- a cell of an output, and a control cell, is a BC_2 or else a BC_1
abbrev pub output_kind : BoundaryKind → BoundaryKind
output_kind Bc2 = Bc2
output_kind _ = Bc1

abbrev pub row_kind : BoundaryRow → BoundaryKind
row_kind (observe_row pin) = Bc4
row_kind (input_row pin into) = Bc1
row_kind (output_row cell core into) = output_kind cell
row_kind (control_row cell core active_high into) = output_kind cell
row_kind (bidir_row core enable active_high pin into) = Bc7

-- a clock's cell captures as an input's, and that of any output as a two-state one's
abbrev pub row_function : BoundaryRow → Function
row_function (observe_row pin) = Input
row_function (input_row pin into) = Input
row_function (output_row cell core into) = Output2
row_function (control_row cell core active_high into) = Control
row_function (bidir_row core enable active_high pin into) = Bidir

-- own: the row stands in this place of the register
abbrev pub IsRowOf : TestLogic → ℕ → BoundaryRow → Type 0
IsRowOf L place row = slice_get L.kinds place ≡ Some (row_kind row)

-- own: what steers the row carries what the test logic says: TCK and TRST, what the register does on the next edges,
-- what the instruction in effect makes of the cells, and the bit that is shifted into this place
pub record IsSteered (scan : ScanNets) (next : NetId) (L : TestLogic) (levels : Levels) (machine : Machine) (place : ℕ) (m : Moment) : Type 0 where
  pub carries : Carries scan.tck scan.trst levels m
  pub steers : Steers (steering_of scan) (boundary_action L machine) m
  pub updates : m.value scan.update.0 ≡ bit (boundary_updates L machine)
  pub mode : CarriesMode scan (in_effect L machine) m.value
  pub next_in : m.value next.0 ≡ bit_at (shifted (bit levels.tdi) machine.boundary) place

-- own: at an inout, the core's value and its control of the driver, and the net on which the reading is seen
pub record InoutStands (core enable : Feed) (active_high : Bool) (pin : NetId) (mode : Mode) (value : ℕ → Sig) (c : CellAt) : Type 0 where
  pub core_is : c.core ≡ feed_value value core
  pub driver : ControlAt
  pub driver_is : c.control ≡ Some driver
  pub disable : driver.disable ≡ not active_high
  pub enable_is : driver.core ≡ feed_value value enable
  pub seen : see (row_reading Bidir mode c) ≡ value pin.0

-- own: what the row is handed has the values of the pin and of the core that stand at the cell
abbrev pub IsHanded : BoundaryRow → Mode → (ℕ → Sig) → CellAt → Type 0
IsHanded (observe_row pin) mode value c = see c.outside ≡ value pin.0
IsHanded (input_row pin into) mode value c = see c.outside ≡ value pin.0
IsHanded (output_row cell core into) mode value c = c.core ≡ feed_value value core
IsHanded (control_row cell core active_high into) mode value c = c.core ≡ feed_value value core
IsHanded (bidir_row core enable active_high pin into) mode value c = InoutStands core enable active_high pin mode value c

-- own: this stands at the cell: the test logic's update bit, and what the row is handed
pub record StandsAtRow (row : BoundaryRow) (mode : Mode) (upd : Sig) (value : ℕ → Sig) (c : CellAt) : Type 0 where
  pub upd_is : c.upd ≡ upd
  pub handed : IsHanded row mode value c

-- own: the update bit is on the third net after the shift bit; a BC_4 has none, and its place stays 0
abbrev pub HoldsUpdate : BoundaryRow → ℕ → Sig → (ℕ → Sig) → Type 0
HoldsUpdate (observe_row pin) first upd value = upd ≡ Zero
HoldsUpdate (input_row pin into) first upd value = value (first + 3) ≡ upd
HoldsUpdate (output_row cell core into) first upd value = value (first + 3) ≡ upd
HoldsUpdate (control_row cell core active_high into) first upd value = value (first + 3) ≡ upd
HoldsUpdate (bidir_row core enable active_high pin into) first upd value = value (first + 3) ≡ upd

-- own: the row's nets carry what the boundary register has in this place
pub record HoldsRow (row : BoundaryRow) (first place : ℕ) (machine : Machine) (value : ℕ → Sig) : Type 0 where
  pub shift : value first ≡ bit_at machine.boundary place
  pub update : HoldsUpdate row first (bit_at machine.update place) value

-- what stands at a control cell for the drivers that it controls
abbrev pub control_of : Bool → CellAt → ControlAt
control_of active_high c = record { disable = not active_high; upd = c.upd; core = c.core }

-- what the row gives: the core its value of an input, where a BC_4 leaves the pin; an output's driver its data;
-- drivers their control
abbrev pub Gives : BoundaryRow → Mode → (ℕ → Sig) → CellAt → Type 0
Gives (observe_row pin) mode value c = value pin.0 ≡ input_into Bc4 mode c
Gives (input_row pin into) mode value c = value into.0 ≡ input_into Bc1 mode c
Gives (output_row cell core into) mode value c = value into.0 ≡ datum mode c
Gives (control_row cell core active_high into) mode value c = value into.0 ≡ level mode (control_of active_high c)
Gives (bidir_row core enable active_high pin into) mode value c = value into.0 ≡ datum mode c
