-- What the bits do, in every well-formed netlist that contains their cells.
-- IEEE Std 1149.1-2001: TAP controller (what acts on which edge of TCK, and TRST), instruction register,
-- test data registers.
use Rattle.std.specs.Prelude.{◌≡◌, ℕ, Bool, true, false, Option, Some, None, if◌then◌else◌}
use Rattle.signal_values.specs.declared.Sig.{Sig}
use Rattle.signal_values.specs.declared.Sig.TheVariants.{Zero}
use Rattle.signal_values.specs.Values.{bit}
use Rattle.cell_library.specs.declared.Edge.{Edge}
use Rattle.cell_library.specs.declared.Edge.TheVariants.{Rise, Fall}
use Rattle.netlist_model.specs.declared.NetId.{NetId}
use Rattle.netlist_model.specs.declared.Feed.{Feed}
use Rattle.netlist_model.specs.Lists.{NetlistView}
use Rattle.netlist_model.specs.Settled.{feed_value, IsSettled}
use Rattle.netlist_model.specs.Formed.{IsWellFormed}
use Rattle.netlist_model.specs.Contained.{HasCells}
use Rattle.netlist_model.specs.Runs.{Moment, PinEvent, IsStart, IsStep}
use Rattle.tap_gates.specs.test_logic.declared.Levels.{Levels}
use Rattle.tap_gates.specs.test_logic.declared.Action.{Action}
use Rattle.tap_gates.specs.test_logic.declared.Action.TheVariants.{Captures, Shifts}
use Rattle.tap_gates.specs.test_logic.Controller.{act}
use Rattle.tap_gates.specs.test_logic.Machine.{edge_of}
use Rattle.register_gates.specs.declared.bits.Steering.{Steering}
use Rattle.register_gates.specs.declared.bits.Holding.{Holding}
use Rattle.register_gates.specs.Bits.{shift_bit_cells, held_bit_cells}

-- own: the clock and reset nets have these levels
pub record Carries (tck trst : NetId) (levels : Levels) (m : Moment) : Type 0 where
  pub clock : m.value tck.0 ≡ bit levels.tck
  pub reset : m.value trst.0 ≡ bit levels.trst

abbrev pub is_capture : Action → Bool
is_capture Captures = true
is_capture _ = false

abbrev pub is_shift : Action → Bool
is_shift Shifts = true
is_shift _ = false

-- own: the nets of capture and shift say what the stage does on the next rising edge
pub record Steers (by : Steering) (action : Action) (m : Moment) : Type 0 where
  pub capture : m.value by.capture.0 ≡ bit (is_capture action)
  pub shift : m.value by.shift.0 ≡ bit (is_shift action)

-- own: what is held after an event, of what the edge takes, what TRST at 0 gives, and what is held
abbrev pub on_edge : {A : Type 0} → Option Edge → A → A → A → A
on_edge (Some Rise) risen fallen kept = risen
on_edge (Some Fall) risen fallen kept = fallen
on_edge None risen fallen kept = kept

abbrev pub bit_after : {A : Type 0} → Levels → Levels → A → A → A → A → A
bit_after before after reset risen fallen kept = if after.trst then on_edge (edge_of before.tck after.tck) risen fallen kept else reset

pub record ShiftBitLaws (first number : ℕ) (by : Steering) (captured : Feed) (next : NetId) : Type 0 where
  -- where TRST is 0 at a start, the bit is 0
  pub start : (N : NetlistView) (given : ℕ → Sig) (levels : Levels) (m : Moment) → IsWellFormed N → HasCells N (shift_bit_cells first number by captured next)
      → IsStart N given m → Carries by.tck by.trst levels m → levels.trst ≡ false → m.value first ≡ Zero
  -- a rising edge takes what is captured, the next bit, or what was there; TRST at 0 clears
  pub step : (N : NetlistView) (event : PinEvent) (action : Action) (before after : Levels) (m m' : Moment) → IsWellFormed N
      → HasCells N (shift_bit_cells first number by captured next) → IsSettled N m.pins m.state m.value → IsStep N event m m'
      → Carries by.tck by.trst before m → Carries by.tck by.trst after m' → Steers by action m
      → m'.value first ≡ bit_after before after Zero (act action (feed_value m.value captured) (m.value next.0) (m.value first)) (m.value first) (m.value first)

-- own: wherever a bit of a shift stage was added
abbrev pub ShiftBitsFollow : Type 0
ShiftBitsFollow = (first number : ℕ) (by : Steering) (captured : Feed) (next : NetId) → ShiftBitLaws first number by captured next

pub record HeldBitLaws (first number : ℕ) (by : Holding) (preset : Bool) (loaded : Feed) : Type 0 where
  -- where TRST is 0 at a start, the bit is preset or cleared
  pub start : (N : NetlistView) (given : ℕ → Sig) (levels : Levels) (m : Moment) → IsWellFormed N → HasCells N (held_bit_cells first number by preset loaded)
      → IsStart N given m → Carries by.tck by.trst levels m → levels.trst ≡ false → m.value first ≡ bit preset
  -- a falling edge takes what is loaded, where it loads; TRST at 0 presets or clears
  pub step : (N : NetlistView) (event : PinEvent) (loads : Bool) (before after : Levels) (m m' : Moment) → IsWellFormed N
      → HasCells N (held_bit_cells first number by preset loaded) → IsSettled N m.pins m.state m.value → IsStep N event m m'
      → Carries by.tck by.trst before m → Carries by.tck by.trst after m' → m.value by.load.0 ≡ bit loads
      → m'.value first ≡ bit_after before after (bit preset) (m.value first) (if loads then feed_value m.value loaded else m.value first) (m.value first)

-- own: wherever a bit that is held was added
abbrev pub HeldBitsFollow : Type 0
HeldBitsFollow = (first number : ℕ) (by : Holding) (preset : Bool) (loaded : Feed) → HeldBitLaws first number by preset loaded
