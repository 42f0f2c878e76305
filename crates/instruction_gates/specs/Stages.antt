-- The instruction register: its cells, and what they do in every well-formed netlist that contains them.
-- IEEE Std 1149.1-2001: instruction register, TAP controller; the gates are own.
use Rattle.std.specs.Prelude.{◌≡◌, ℕ, ◌+◌, ◌*◌, ◌≤◌, List, [], ◌∷◌, ◌++◌, length}
use Rattle.signal_values.specs.declared.Sig.{Sig}
use Rattle.signal_values.specs.Values.{bit}
use Rattle.netlist_model.specs.declared.NetId.{NetId}
use Rattle.netlist_model.specs.declared.Feed.{Feed}
use Rattle.netlist_model.specs.declared.Feed.TheVariants.{Net}
use Rattle.netlist_model.specs.Lists.{CellView, NetlistView}
use Rattle.netlist_model.specs.Settled.{feed_values, IsSettled}
use Rattle.netlist_model.specs.Formed.{IsWellFormed}
use Rattle.netlist_model.specs.Contained.{HasCells}
use Rattle.netlist_model.specs.Runs.{Moment, PinEvent, IsStep, IsRun}
use Rattle.gate_parts.specs.Parts.{part_cells}
use Rattle.test_logic.specs.declared.TapNets.{TapNets}
use Rattle.test_logic.specs.declared.Levels.{Levels}
use Rattle.test_logic.specs.Instructions.{reset_opcode}
use Rattle.test_logic.specs.Machine.{TestLogic, Machine, IsHistory, machine_step}
use Rattle.register_gates.specs.tap_gates.Laws.{ShowsState}
use Rattle.register_gates.specs.declared.bits.Steering.{Steering}
use Rattle.register_gates.specs.Chains.{chain_cells, chain_values}
use Rattle.register_gates.specs.BitsLaws.{Carries}
use Rattle.instruction_gates.specs.declared.latches.Latching.{Latching}
use Rattle.instruction_gates.specs.declared.stages.TheConstants.{LOADS}
use Rattle.instruction_gates.specs.Rows.{bits_in}
use Rattle.instruction_gates.specs.Latches.{latches_cells, latch_values}

abbrev pub loads_given : TapNets → List Feed
loads_given tap = Net tap.update_ir ∷ Net tap.in_reset ∷ []

abbrev pub ir_steering : TapNets → Steering
ir_steering tap = record { tck = tap.tck; trst = tap.trst; capture = tap.capture_ir; shift = tap.shift_ir }

abbrev pub ir_latching : ℕ → TapNets → Latching
ir_latching first tap = record { tck = tap.tck; trst = tap.trst; load = record { 0 = first }; in_reset = tap.in_reset }

-- own: what loads the latched bits, and the shift stage
abbrev pub shift_stage_cells : ℕ → ℕ → TapNets → NetId → List Feed → List CellView
shift_stage_cells first number tap tdi captured = part_cells LOADS (loads_given tap) first number
    ++ chain_cells (first + 1) (number + 1) (ir_steering tap) tdi captured

-- own: with the latched bits behind them
abbrev pub stages_cells : ℕ → ℕ → TapNets → NetId → List Feed → List Feed → List CellView
stages_cells first number tap tdi captured presets = shift_stage_cells first number tap tdi captured
    ++ latches_cells (first + (1 + 3 * length captured)) (number + (1 + 3 * length captured)) (ir_latching first tap) (first + 1) presets

-- own: what the two stages hold
abbrev pub shift_list : (ℕ → Sig) → ℕ → List Feed → List Sig
shift_list value first captured = chain_values value (first + 1) captured

abbrev pub latched_list : (ℕ → Sig) → ℕ → List Feed → List Feed → List Sig
latched_list value first captured presets = latch_values value (first + (1 + 3 * length captured)) presets

-- own: at a moment of a run, what is handed in carries the controller's state, the levels, and the pattern
-- that is captured
pub record Feeds (tap : TapNets) (tdi : NetId) (captured : List Feed) (L : TestLogic) (levels : Levels) (machine : Machine) (m : Moment) : Type 0 where
  pub carries : Carries tap.tck tap.trst levels m
  pub shows : ShowsState tap machine.state m
  pub data_in : m.value tdi.0 ≡ bit levels.tdi
  pub pattern : feed_values m.value captured ≡ L.capture

-- own: at every moment of a run the two stages are those of the test logic
abbrev pub StagesFollow : Type 0
StagesFollow = (first number : ℕ) (tap : TapNets) (tdi : NetId) (captured presets : List Feed) (N : NetlistView) (given : ℕ → Sig) (events : List PinEvent) (moment : ℕ → Moment)
    → length presets ≡ length captured → IsWellFormed N → HasCells N (stages_cells first number tap tdi captured presets) → IsRun N given events moment
    → (L : TestLogic) (levels : ℕ → Levels) (caught : ℕ → List Sig) (machine : ℕ → Machine) → IsHistory L levels caught (length events) machine
    → reset_opcode L.opcodes ≡ bits_in presets → ((t : ℕ) → t ≤ length events → Feeds tap tdi captured L (levels t) (machine t) (moment t))
    → (t : ℕ) → t ≤ length events
    → (shift_list (moment t).value first captured ≡ (machine t).shift) × (latched_list (moment t).value first captured presets ≡ (machine t).latched)

-- own: an event takes the two stages to those of the test logic after it, whatever they held
abbrev pub StagesStep : Type 0
StagesStep = (first number : ℕ) (tap : TapNets) (tdi : NetId) (captured presets : List Feed) (N : NetlistView) (event : PinEvent) (L : TestLogic) (before after : Levels)
    (caught : List Sig) (machine : Machine) (m m' : Moment)
    → length presets ≡ length captured → IsWellFormed N → HasCells N (stages_cells first number tap tdi captured presets) → IsSettled N m.pins m.state m.value → IsStep N event m m'
    → reset_opcode L.opcodes ≡ bits_in presets → Feeds tap tdi captured L before machine m → Carries tap.tck tap.trst after m'
    → shift_list m.value first captured ≡ machine.shift → latched_list m.value first captured presets ≡ machine.latched
    → (shift_list m'.value first captured ≡ (machine_step L before after caught machine).shift)
    × (latched_list m'.value first captured presets ≡ (machine_step L before after caught machine).latched)
