-- The opcode that is latched: the cells of its bits, and what they do in every well-formed netlist that contains them.
-- IEEE Std 1149.1-2001: instruction register; the gates are own.
use Rattle.std.specs.Prelude.{◌≡◌, ℕ, ◌+◌, ◌*◌, ◌||◌, Bool, true, false, List, [], ◌∷◌, ◌++◌, length}
use Rattle.signal_values.specs.declared.Sig.{Sig}
use Rattle.signal_values.specs.Values.{bit}
use Rattle.netlist_model.specs.declared.Feed.{Feed}
use Rattle.netlist_model.specs.declared.Feed.TheVariants.{Net, Const}
use Rattle.netlist_model.specs.Lists.{CellView, NetlistView}
use Rattle.netlist_model.specs.Settled.{IsSettled}
use Rattle.netlist_model.specs.Formed.{IsWellFormed}
use Rattle.netlist_model.specs.Contained.{HasCells}
use Rattle.netlist_model.specs.Runs.{Moment, PinEvent, IsStart, IsStep}
use Rattle.gate_parts.specs.Parts.{part_cells}
use Rattle.test_logic.specs.declared.Levels.{Levels}
use Rattle.test_logic.specs.declared.TapState.{TapState}
use Rattle.test_logic.specs.declared.TapState.TheVariants.{TestLogicReset, UpdateIr}
use Rattle.test_logic.specs.Registers.{latched_after}
use Rattle.register_gates.specs.declared.bits.Holding.{Holding}
use Rattle.register_gates.specs.Bits.{held_bit_cells}
use Rattle.register_gates.specs.Chains.{chain_values}
use Rattle.register_gates.specs.BitsLaws.{Carries, bit_after}
use Rattle.instruction_gates.specs.declared.latches.Latching.{Latching}
use Rattle.instruction_gates.specs.declared.latches.TheConstants.{LOADED}
use Rattle.instruction_gates.specs.Rows.{is_one, bits_in, row_cells, placed}

abbrev pub holding_of : Latching → Holding
holding_of by = record { tck = by.tck; trst = by.trst; load = by.load }

abbrev pub loaded_given : Latching → ℕ → Feed → List Feed
loaded_given by shift preset = Net (record { 0 = shift }) ∷ Const (is_one preset) ∷ Net by.in_reset ∷ []

-- own: the cells of one latched bit, behind the bit of the shift stage on this net; it is on the second of its own
abbrev pub latch_cells : Latching → ℕ → ℕ → ℕ → Feed → List CellView
latch_cells by shift first number preset = part_cells LOADED (loaded_given by shift preset) first number
    ++ held_bit_cells (first + 1) (number + 1) (holding_of by) (is_one preset) (Net (record { 0 = first }))

-- own: the cells of all of them, behind a shift stage on nets from `shifts` on
abbrev pub latches_cells : ℕ → ℕ → Latching → ℕ → List Feed → List CellView
latches_cells first number by shifts presets =
    row_cells (placed (λ behind at cell preset. latch_cells by (shifts + 3 * behind) at cell preset) 3 first number) presets

-- own: what is latched
abbrev pub latch_values : (ℕ → Sig) → ℕ → List Feed → List Sig
latch_values value first [] = []
latch_values value first (preset ∷ rest) = value (first + 3 * length rest + 1) ∷ latch_values value first rest

abbrev pub is_reset : TapState → Bool
is_reset TestLogicReset = true
is_reset _ = false

abbrev pub is_update : TapState → Bool
is_update UpdateIr = true
is_update _ = false

-- own: the nets that steer them tell the controller's state
pub record Latches (by : Latching) (w : TapState) (m : Moment) : Type 0 where
  pub loads : m.value by.load.0 ≡ bit (is_update w || is_reset w)
  pub resets : m.value by.in_reset.0 ≡ bit (is_reset w)

pub record LatchesLaws (first number : ℕ) (by : Latching) (shifts : ℕ) (presets : List Feed) : Type 0 where
  -- where TRST is 0 at a start, the opcode that reset latches
  pub start : (N : NetlistView) (given : ℕ → Sig) (levels : Levels) (m : Moment) → IsWellFormed N → HasCells N (latches_cells first number by shifts presets)
      → IsStart N given m → Carries by.tck by.trst levels m → levels.trst ≡ false → latch_values m.value first presets ≡ bits_in presets
  -- a falling edge latches what the shift stage holds, or the opcode of reset, or nothing; TRST at 0
  -- the opcode of reset
  pub step : (N : NetlistView) (event : PinEvent) (w : TapState) (before after : Levels) (m m' : Moment) → IsWellFormed N
      → HasCells N (latches_cells first number by shifts presets) → IsSettled N m.pins m.state m.value → IsStep N event m m'
      → Carries by.tck by.trst before m → Carries by.tck by.trst after m' → Latches by w m
      → latch_values m'.value first presets
      ≡ bit_after before after (bits_in presets) (latch_values m.value first presets)
      (latched_after (bits_in presets) w (chain_values m.value shifts presets) (latch_values m.value first presets)) (latch_values m.value first presets)

abbrev pub LatchesFollow : Type 0
LatchesFollow = (first number : ℕ) (by : Latching) (shifts : ℕ) (presets : List Feed) → LatchesLaws first number by shifts presets
