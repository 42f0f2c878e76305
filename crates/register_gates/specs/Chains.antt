-- A shift stage of any length, a bit behind another from TDI to TDO. In a list place 0 is nearest TDO.
-- IEEE Std 1149.1-2001: instruction register, test data registers; the gates are own.
use Rattle.std.specs.Prelude.{◌≡◌, ℕ, ◌+◌, ◌*◌, false, List, [], ◌∷◌, ◌++◌, map, length}
use Rattle.signal_values.specs.declared.Sig.{Sig}
use Rattle.signal_values.specs.declared.Sig.TheVariants.{Zero}
use Rattle.netlist_model.specs.declared.NetId.{NetId}
use Rattle.netlist_model.specs.declared.Feed.{Feed}
use Rattle.netlist_model.specs.Lists.{CellView, NetlistView}
use Rattle.netlist_model.specs.Settled.{feed_values, IsSettled}
use Rattle.netlist_model.specs.Formed.{IsWellFormed}
use Rattle.netlist_model.specs.Contained.{HasCells}
use Rattle.netlist_model.specs.Runs.{Moment, PinEvent, IsStart, IsStep}
use Rattle.tap_gates.specs.test_logic.declared.Levels.{Levels}
use Rattle.tap_gates.specs.test_logic.declared.Action.{Action}
use Rattle.tap_gates.specs.test_logic.Controller.{act}
use Rattle.tap_gates.specs.test_logic.Registers.{shifted}
use Rattle.register_gates.specs.declared.bits.Steering.{Steering}
use Rattle.register_gates.specs.Bits.{shift_bit_cells}
use Rattle.register_gates.specs.BitsLaws.{Carries, Steers, bit_after}

-- own: the bit of a chain nearest TDO, on nets from `first` on; a chain without bits is TDI
abbrev pub chain_last : ℕ → NetId → List Feed → NetId
chain_last first tdi [] = tdi
chain_last first tdi (captured ∷ rest) = record { 0 = first + 3 * length rest }

-- own: the cells of a chain that captures these; the bit nearest TDI comes first
abbrev pub chain_cells : ℕ → ℕ → Steering → NetId → List Feed → List CellView
chain_cells first number by tdi [] = []
chain_cells first number by tdi (captured ∷ rest) = chain_cells first number by tdi rest
    ++ shift_bit_cells (first + 3 * length rest) (number + 3 * length rest) by captured (chain_last first tdi rest)

-- own: what the bits hold
abbrev pub chain_values : (ℕ → Sig) → ℕ → List Feed → List Sig
chain_values value first [] = []
chain_values value first (captured ∷ rest) = value (first + 3 * length rest) ∷ chain_values value first rest

abbrev pub cleared : {A : Type 0} → List A → List Sig
cleared like = map (λ x. Zero) like

pub record ChainLaws (first number : ℕ) (by : Steering) (tdi : NetId) (captured : List Feed) : Type 0 where
  -- where TRST is 0 at a start, all bits are 0
  pub start : (N : NetlistView) (given : ℕ → Sig) (levels : Levels) (m : Moment) → IsWellFormed N → HasCells N (chain_cells first number by tdi captured)
      → IsStart N given m → Carries by.tck by.trst levels m → levels.trst ≡ false → chain_values m.value first captured ≡ cleared captured
  -- a rising edge captures, shifts or keeps; TRST at 0 clears
  pub step : (N : NetlistView) (event : PinEvent) (action : Action) (before after : Levels) (m m' : Moment) → IsWellFormed N
      → HasCells N (chain_cells first number by tdi captured) → IsSettled N m.pins m.state m.value → IsStep N event m m'
      → Carries by.tck by.trst before m → Carries by.tck by.trst after m' → Steers by action m
      → chain_values m'.value first captured ≡ bit_after before after (cleared captured)
      (act action (feed_values m.value captured) (shifted (m.value tdi.0) (chain_values m.value first captured)) (chain_values m.value first captured))
      (chain_values m.value first captured) (chain_values m.value first captured)

-- own: wherever a chain was added
abbrev pub ChainsFollow : Type 0
ChainsFollow = (first number : ℕ) (by : Steering) (tdi : NetId) (captured : List Feed) → ChainLaws first number by tdi captured
