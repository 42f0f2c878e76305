-- What a row does, in every well-formed netlist that contains its cells, whatever its kind.
-- IEEE Std 1149.1-2001: boundary-scan register, TAP controller.
use Rattle.std.specs.Prelude.{◌≡◌, ℕ, ◌<◌, ◌≤◌, false, List, length}
use Rattle.signal_values.specs.declared.Sig.{Sig}
use Rattle.cell_library.specs.declared.codes.Instr.{Instr}
use Rattle.netlist_model.specs.declared.NetId.{NetId}
use Rattle.netlist_model.specs.Lists.{NetlistView}
use Rattle.netlist_model.specs.Settled.{Meets, IsSettled}
use Rattle.netlist_model.specs.Formed.{IsWellFormed}
use Rattle.netlist_model.specs.Contained.{HasCells}
use Rattle.netlist_model.specs.Runs.{Moment, PinEvent, IsStart, IsStep, IsRun}
use Rattle.test_logic.specs.declared.Levels.{Levels}
use Rattle.test_logic.specs.declared.ScanNets.{ScanNets}
use Rattle.test_logic.specs.Instructions.{mode_of}
use Rattle.test_logic.specs.Machine.{TestLogic, Machine, IsHistory, in_effect, reset, machine_step}
use Rattle.test_logic.specs.Rows.{CellAt, row_captured}
use Rattle.register_gates.specs.BitsLaws.{Carries}
use Rattle.boundary_cells.specs.Laws.{CarriesMode}
use Rattle.boundary_cells.specs.MachineRows.{bit_at}
use Rattle.surrounded_core.specs.Rows.{BoundaryRow, row_cells, row_kind, row_function, IsRowOf, IsSteered, StandsAtRow, HoldsUpdate, HoldsRow, Gives}

-- the list has in this place what the row's cell captures
abbrev pub Captures : BoundaryRow → Instr → CellAt → List Sig → ℕ → Type 0
Captures row instruction c captured place = bit_at captured place ≡ row_captured (row_kind row) (row_function row) instruction c

-- own: at a moment the row is steered, and this stands at its cell
pub record IsServed (row : BoundaryRow) (scan : ScanNets) (next : NetId) (L : TestLogic) (levels : Levels) (machine : Machine) (place : ℕ) (c : CellAt) (m : Moment) : Type 0 where
  pub steered : IsSteered scan next L levels machine place m
  pub stands : StandsAtRow row (mode_of (in_effect L machine)) (bit_at machine.update place) m.value c

-- own: what a row does, where its nets begin at `first` and its cells were numbered from `number` on
pub record RowLaws (row : BoundaryRow) (first number : ℕ) (scan : ScanNets) (next : NetId) : Type 0 where
  -- where TRST is 0 at a start, it holds what the test logic has in reset
  pub start : (N : NetlistView) (given : ℕ → Sig) (levels : Levels) (m : Moment) (L : TestLogic) (place : ℕ) → IsWellFormed N → HasCells N (row_cells row first number scan next)
      → IsStart N given m → Carries scan.tck scan.trst levels m → levels.trst ≡ false → IsRowOf L place row → HoldsRow row first place (reset L) m.value
  -- an event takes it to what the test logic has next, where this list of what the cells capture has the
  -- row's in its place
  pub step : (N : NetlistView) (event : PinEvent) (before after : Levels) (m m' : Moment) (L : TestLogic) (captured : List Sig) (machine : Machine) (place : ℕ) (c : CellAt)
      → IsWellFormed N → HasCells N (row_cells row first number scan next) → IsSettled N m.pins m.state m.value → IsStep N event m m'
      → IsRowOf L place row → place < length machine.boundary
      → IsServed row scan next L before machine place c m → Captures row (in_effect L machine) c captured place → Carries scan.tck scan.trst after m'
      → HoldsRow row first place machine m.value → HoldsRow row first place (machine_step L before after captured machine) m'.value
  -- at each moment it gives what its mode says, under any rule for the nets of pins
  pub gives : (N : NetlistView) (rule : (ℕ → Sig) → ℕ → Sig) (state value : ℕ → Sig) (instruction : Instr) (upd : Sig) (c : CellAt)
      → IsWellFormed N → HasCells N (row_cells row first number scan next) → Meets N rule state value → CarriesMode scan instruction value
      → StandsAtRow row (mode_of instruction) upd value c → HoldsUpdate row first upd value → Gives row (mode_of instruction) value c
  -- at every moment of a run up to which it is served, it holds what the test logic has in its place, and
  -- gives the row's value
  pub whole_run : (N : NetlistView) (given : ℕ → Sig) (events : List PinEvent) (moment : ℕ → Moment) → IsWellFormed N → HasCells N (row_cells row first number scan next)
      → IsRun N given events moment
      → (L : TestLogic) (levels : ℕ → Levels) (captured : ℕ → List Sig) (machine : ℕ → Machine) → IsHistory L levels captured (length events) machine
      → ((t : ℕ) → t < length events → length (captured t) ≡ length L.kinds)
      → (place : ℕ) → IsRowOf L place row → (c : ℕ → CellAt) (t : ℕ) → t ≤ length events
      → ((u : ℕ) → u ≤ t → IsServed row scan next L (levels u) (machine u) place (c u) (moment u))
      → ((u : ℕ) → u < t → Captures row (in_effect L (machine u)) (c u) (captured u) place)
      → HoldsRow row first place (machine t) (moment t).value × Gives row (mode_of (in_effect L (machine t))) (moment t).value (c t)

-- own: wherever a row's cells were added
abbrev pub RowsFollow : Type 0
RowsFollow = (row : BoundaryRow) (first number : ℕ) (scan : ScanNets) (next : NetId) → RowLaws row first number scan next
