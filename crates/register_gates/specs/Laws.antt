-- What the registers do, in every well-formed netlist that contains their cells.
-- IEEE Std 1149.1-2001: test data registers, bypass register, device identification register.
use Rattle.std.specs.Prelude.{◌≡◌, ℕ, ◌+◌, ◌<◌, ◌≤◌, Bool, false, List, length, Option, unwrap_or, if◌then◌else◌}
use Rattle.signal_values.specs.declared.Sig.{Sig}
use Rattle.signal_values.specs.declared.Sig.TheVariants.{Zero}
use Rattle.signal_values.specs.Values.{bit}
use Rattle.netlist_model.specs.declared.NetId.{NetId}
use Rattle.netlist_model.specs.declared.Feed.{Feed}
use Rattle.netlist_model.specs.Lists.{NetlistView}
use Rattle.netlist_model.specs.Settled.{feed_values, IsSettled}
use Rattle.netlist_model.specs.Formed.{IsWellFormed}
use Rattle.netlist_model.specs.Contained.{HasCells}
use Rattle.netlist_model.specs.Runs.{Moment, PinEvent, IsStart, IsStep, IsRun}
use Rattle.tap_gates.specs.bsdl_device.declared.entries.Register.{Register}
use Rattle.tap_gates.specs.bsdl_device.declared.entries.Register.TheVariants as register
use Rattle.tap_gates.specs.test_logic.declared.TapState.{TapState}
use Rattle.tap_gates.specs.test_logic.declared.TapNets.{TapNets}
use Rattle.tap_gates.specs.test_logic.declared.Levels.{Levels}
use Rattle.tap_gates.specs.test_logic.Instructions.{is_usercode, bits_of}
use Rattle.tap_gates.specs.test_logic.Registers.{first_bit, bypass_after, ident_after}
use Rattle.tap_gates.specs.test_logic.Machine.{TestLogic, Machine, IsHistory, in_effect, selects, zeros}
use Rattle.tap_gates.specs.Laws.{ShowsState}
use Rattle.register_gates.specs.BitsLaws.{Carries, bit_after}
use Rattle.register_gates.specs.Registers.{bypass_cells, data_cells, data_values, data_last, captured_feeds, ident_cells, ident_values, ident_last}

-- own: the nets that are handed to a test data register carry the controller's state, whether it is
-- selected, and the levels
pub record Directs (tap : TapNets) (on tdi : NetId) (levels : Levels) (w : TapState) (selected : Bool) (m : Moment) : Type 0 where
  pub carries : Carries tap.tck tap.trst levels m
  pub shows : ShowsState tap w m
  pub selection : m.value on.0 ≡ bit selected
  pub data_in : m.value tdi.0 ≡ bit levels.tdi

-- own: at each moment of a run they carry what the test logic says
abbrev pub DirectsRun : TapNets → NetId → NetId → Register → ℕ → (ℕ → Moment) → TestLogic → (ℕ → Levels) → (ℕ → Machine) → Type 0
DirectsRun tap on tdi of count moment L levels machine = (t : ℕ) → t ≤ count
    → Directs tap on tdi (levels t) (machine t).state (selects L (machine t) of) (moment t)

-- own: the bypass register, wherever its nets begin at `first` and its cells were numbered from `number` on
pub record BypassLaws (first number : ℕ) (tap : TapNets) (on tdi : NetId) : Type 0 where
  -- where TRST is 0 at a start, it is 0
  pub start : (N : NetlistView) (given : ℕ → Sig) (levels : Levels) (m : Moment) → IsWellFormed N → HasCells N (bypass_cells first number tap on tdi)
      → IsStart N given m → Carries tap.tck tap.trst levels m → levels.trst ≡ false → m.value (first + 2) ≡ Zero
  -- an event makes of it what the test logic does
  pub step : (N : NetlistView) (event : PinEvent) (w : TapState) (selected : Bool) (before after : Levels) (m m' : Moment) → IsWellFormed N
      → HasCells N (bypass_cells first number tap on tdi) → IsSettled N m.pins m.state m.value → IsStep N event m m'
      → Directs tap on tdi before w selected m → Carries tap.tck tap.trst after m'
      → m'.value (first + 2)
      ≡ bit_after before after Zero (bypass_after selected w (bit before.tdi) (m.value (first + 2))) (m.value (first + 2)) (m.value (first + 2))
  -- at every moment of a run it is that of the test logic
  pub whole_run : (N : NetlistView) (given : ℕ → Sig) (events : List PinEvent) (moment : ℕ → Moment) → IsWellFormed N → HasCells N (bypass_cells first number tap on tdi)
      → IsRun N given events moment
      → (L : TestLogic) (levels : ℕ → Levels) (captured : ℕ → List Sig) (machine : ℕ → Machine) → IsHistory L levels captured (length events) machine
      → DirectsRun tap on tdi register.Bypass (length events) moment L levels machine
      → (t : ℕ) → t ≤ length events → (moment t).value (first + 2) ≡ (machine t).bypass

abbrev pub BypassFollows : Type 0
BypassFollows = (first number : ℕ) (tap : TapNets) (on tdi : NetId) → BypassLaws first number tap on tdi

-- own: a register that captures these, likewise
pub record DataLaws (first number : ℕ) (tap : TapNets) (on tdi : NetId) (captured : List Feed) : Type 0 where
  pub start : (N : NetlistView) (given : ℕ → Sig) (levels : Levels) (m : Moment) → IsWellFormed N → HasCells N (data_cells first number tap on tdi captured)
      → IsStart N given m → Carries tap.tck tap.trst levels m → levels.trst ≡ false → data_values m.value first captured ≡ zeros captured
  pub step : (N : NetlistView) (event : PinEvent) (w : TapState) (selected : Bool) (before after : Levels) (m m' : Moment) → IsWellFormed N
      → HasCells N (data_cells first number tap on tdi captured) → IsSettled N m.pins m.state m.value → IsStep N event m m'
      → Directs tap on tdi before w selected m → Carries tap.tck tap.trst after m'
      → data_values m'.value first captured
      ≡ bit_after before after (zeros captured) (ident_after selected (feed_values m.value captured) w (bit before.tdi) (data_values m.value first captured))
      (data_values m.value first captured) (data_values m.value first captured)
  -- the net that is handed on is that of the bit nearest TDO
  pub last : 0 < length captured → (m : Moment) → m.value (data_last first tdi captured).0 ≡ first_bit (data_values m.value first captured)

abbrev pub DataFollows : Type 0
DataFollows = (first number : ℕ) (tap : TapNets) (on tdi : NetId) (captured : List Feed) → DataLaws first number tap on tdi captured

-- what the identification register captures: the usercode while USERCODE is in effect, else the code; without a
-- usercode the code
abbrev pub captured_bits : Option ℕ → ℕ → Bool → List Sig
captured_bits user code using = if using then bits_of 32 (unwrap_or user code) else bits_of 32 code

-- own: at each moment of a run this net tells whether USERCODE is in effect
abbrev pub TellsUsercode : NetId → ℕ → (ℕ → Moment) → TestLogic → (ℕ → Machine) → Type 0
TellsUsercode user_on count moment L machine = (t : ℕ) → t ≤ count → (moment t).value user_on.0 ≡ bit (is_usercode (in_effect L (machine t)))

-- own: the identification register with a code, and a usercode or none
pub record IdentLaws (first number : ℕ) (tap : TapNets) (on user_on tdi : NetId) (user : Option ℕ) (code : ℕ) : Type 0 where
  pub long : length (captured_feeds first user_on user code) ≡ 32
  pub start : (N : NetlistView) (given : ℕ → Sig) (levels : Levels) (m : Moment) → IsWellFormed N → HasCells N (ident_cells first number tap on user_on tdi user code)
      → IsStart N given m → Carries tap.tck tap.trst levels m → levels.trst ≡ false → ident_values m.value first user_on user code ≡ zeros (bits_of 32 code)
  pub step : (N : NetlistView) (event : PinEvent) (w : TapState) (selected using : Bool) (before after : Levels) (m m' : Moment) → IsWellFormed N
      → HasCells N (ident_cells first number tap on user_on tdi user code) → IsSettled N m.pins m.state m.value → IsStep N event m m'
      → Directs tap on tdi before w selected m → m.value user_on.0 ≡ bit using → Carries tap.tck tap.trst after m'
      → ident_values m'.value first user_on user code
      ≡ bit_after before after (zeros (bits_of 32 code)) (ident_after selected (captured_bits user code using) w (bit before.tdi) (ident_values m.value first user_on user code))
      (ident_values m.value first user_on user code) (ident_values m.value first user_on user code)
  -- the net that is handed on is bit 0
  pub last : (m : Moment) → m.value (ident_last first user_on tdi user code).0 ≡ first_bit (ident_values m.value first user_on user code)
  pub whole_run : (N : NetlistView) (given : ℕ → Sig) (events : List PinEvent) (moment : ℕ → Moment) → IsWellFormed N → HasCells N (ident_cells first number tap on user_on tdi user code)
      → IsRun N given events moment
      → (L : TestLogic) (levels : ℕ → Levels) (captured : ℕ → List Sig) (machine : ℕ → Machine) → IsHistory L levels captured (length events) machine
      → L.code ≡ bits_of 32 code → L.user ≡ bits_of 32 (unwrap_or user code) → DirectsRun tap on tdi register.DeviceId (length events) moment L levels machine
      → TellsUsercode user_on (length events) moment L machine
      → (t : ℕ) → t ≤ length events → ident_values (moment t).value first user_on user code ≡ (machine t).ident

abbrev pub IdentFollows : Type 0
IdentFollows = (first number : ℕ) (tap : TapNets) (on user_on tdi : NetId) (user : Option ℕ) (code : ℕ) → IdentLaws first number tap on user_on tdi user code
