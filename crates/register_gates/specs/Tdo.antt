-- TDO: the cells that drive it, and what they do in every well-formed netlist that contains them.
-- IEEE Std 1149.1-2001: test access port, TAP controller; the gates are own.
use Rattle.std.specs.Prelude.{◌≡◌, ℕ, ◌+◌, ◌<◌, ◌≤◌, false, List, [], ◌∷◌, ◌++◌, length, Option, Some, None, ⊤}
use Rattle.signal_values.specs.declared.Sig.{Sig}
use Rattle.signal_values.specs.declared.PinSig.{PinSig}
use Rattle.signal_values.specs.declared.PinSig.TheVariants.{HighZ}
use Rattle.signal_values.specs.Values.{bit, drive}
use Rattle.cell_library.specs.declared.Edge.TheVariants.{Fall}
use Rattle.cell_library.specs.declared.Kind.TheVariants.{Bufif1}
use Rattle.netlist_model.specs.declared.Dir.TheVariants.{Output}
use Rattle.netlist_model.specs.declared.Name.TheVariants.{Added}
use Rattle.netlist_model.specs.declared.NetId.{NetId}
use Rattle.netlist_model.specs.declared.Feed.{Feed}
use Rattle.netlist_model.specs.declared.Feed.TheVariants.{Net, Const}
use Rattle.netlist_model.specs.Lists.{CellView, NetlistView, direction}
use Rattle.netlist_model.specs.Settled.{feed_value, IsSettled}
use Rattle.netlist_model.specs.Formed.{IsWellFormed}
use Rattle.netlist_model.specs.Contained.{HasCells}
use Rattle.netlist_model.specs.Runs.{Moment, PinEvent, IsStart, IsStep, IsRun, reading_at}
use Rattle.gate_parts.specs.Parts.{part_cells}
use Rattle.tap_gates.specs.bsdl_device.declared.entries.Register.{Register}
use Rattle.tap_gates.specs.bsdl_device.declared.entries.Register.TheVariants as register
use Rattle.tap_gates.specs.bsdl_device.Instructions.{is_register, selected_register}
use Rattle.tap_gates.specs.test_logic.declared.InstrNets.{InstrNets}
use Rattle.tap_gates.specs.test_logic.declared.TapNets.{TapNets}
use Rattle.tap_gates.specs.test_logic.declared.TapState.{TapState}
use Rattle.tap_gates.specs.test_logic.declared.TapState.TheVariants.{TestLogicReset}
use Rattle.tap_gates.specs.test_logic.declared.Levels.{Levels}
use Rattle.tap_gates.specs.test_logic.Registers.{first_bit, tdo_after}
use Rattle.tap_gates.specs.test_logic.Machine.{TestLogic, Machine, IsHistory, in_effect, bit_of, edge_of}
use Rattle.tap_gates.specs.Laws.{ShowsState}
use Rattle.register_gates.specs.BitsLaws.{Carries, bit_after}
use Rattle.register_gates.specs.declared.tdo.TheConstants.{TDO}

abbrev pub AreIdentBelow : ℕ → Option NetId → Type 0
AreIdentBelow nets None = ⊤
AreIdentBelow nets (Some net) = net.0 < nets

-- own: the bit of the identification register; 0 where there is none
abbrev pub ident_feed : Option NetId → Feed
ident_feed None = Const false
ident_feed (Some net) = Net net

-- own: what is handed in
abbrev pub tdo_given : TapNets → InstrNets → NetId → Option NetId → NetId → List Feed
tdo_given tap instruction bypass ident boundary = Net tap.tck ∷ Net tap.trst ∷ Net tap.shift_dr ∷ Net tap.shift_ir ∷ Net instruction.last ∷ Net instruction.bypass_on
    ∷ Net instruction.ident_on ∷ Net bypass ∷ ident_feed ident ∷ Net boundary ∷ []

-- own: the driver, of the bit and of whether it is driven
abbrev pub tdo_driver : ℕ → NetId → ℕ → CellView
tdo_driver first tdo number = record {
  kind = Bufif1;
  name = Some (Added number);
  feeds = Net (record { 0 = first }) ∷ Net (record { 0 = first + 1 }) ∷ [];
  output = Some tdo;
}

-- own: the cells, from this cell number on, on the nets from `first` on, and on TDO
abbrev pub tdo_cells : ℕ → ℕ → TapNets → InstrNets → NetId → Option NetId → NetId → NetId → List CellView
tdo_cells first number tap instruction bypass ident boundary tdo =
    part_cells TDO (tdo_given tap instruction bypass ident boundary) first number ++ tdo_driver first tdo (number + 6) ∷ []

-- own: what they give TDO
abbrev pub tdo_given_by : ℕ → Moment → PinSig
tdo_given_by first m = drive (m.value first) (m.value (first + 1))

-- own: the bit nearest TDO of a test data register, of these nets
abbrev pub data_bit : Register → NetId → Option NetId → NetId → Moment → Sig
data_bit register.Boundary bypass ident boundary m = m.value boundary.0
data_bit register.Bypass bypass ident boundary m = m.value bypass.0
data_bit register.DeviceId bypass ident boundary m = feed_value m.value (ident_feed ident)

-- own: what is handed in carries the controller's state, the register that is selected, and the bits nearest TDO of it
-- and of the instruction register
pub record Presents (tap : TapNets) (instruction : InstrNets) (bypass : NetId) (ident : Option NetId) (boundary : NetId) (levels : Levels) (w : TapState) (selected : Register)
    (selected_bit instruction_bit : Sig) (m : Moment) : Type 0 where
  pub carries : Carries tap.tck tap.trst levels m
  pub shows : ShowsState tap w m
  pub bypass_on : m.value instruction.bypass_on.0 ≡ bit (is_register register.Bypass selected)
  pub ident_on : m.value instruction.ident_on.0 ≡ bit (is_register register.DeviceId selected)
  pub nearest : data_bit selected bypass ident boundary m ≡ selected_bit
  pub last : m.value instruction.last.0 ≡ instruction_bit

pub record TdoLaws (first number : ℕ) (tap : TapNets) (instruction : InstrNets) (bypass : NetId) (ident : Option NetId) (boundary tdo : NetId) : Type 0 where
  -- where TRST is 0 at a start, TDO is off
  pub start : (N : NetlistView) (given : ℕ → Sig) (levels : Levels) (m : Moment) → IsWellFormed N → HasCells N (tdo_cells first number tap instruction bypass ident boundary tdo)
      → IsStart N given m → Carries tap.tck tap.trst levels m → levels.trst ≡ false → tdo_given_by first m ≡ HighZ
  -- a falling edge takes the bit, in Shift-DR and Shift-IR alone; TRST at 0 turns it off
  pub step : (N : NetlistView) (event : PinEvent) (w : TapState) (selected : Register) (selected_bit instruction_bit : Sig) (before after : Levels) (m m' : Moment) → IsWellFormed N
      → HasCells N (tdo_cells first number tap instruction bypass ident boundary tdo) → IsSettled N m.pins m.state m.value → IsStep N event m m'
      → Presents tap instruction bypass ident boundary before w selected selected_bit instruction_bit m → Carries tap.tck tap.trst after m'
      → tdo_given_by first m' ≡ bit_after before after HighZ (tdo_given_by first m) (tdo_after w selected_bit instruction_bit) (tdo_given_by first m)
  -- an output on that net reads it
  pub reads : (N : NetlistView) (m : Moment) → IsWellFormed N → HasCells N (tdo_cells first number tap instruction bypass ident boundary tdo)
      → direction N.ports tdo.0 ≡ Some Output → reading_at N m tdo.0 ≡ tdo_given_by first m
  -- at every moment of a run it is TDO of the test logic
  pub whole_run : (N : NetlistView) (given : ℕ → Sig) (events : List PinEvent) (moment : ℕ → Moment) → IsWellFormed N
      → HasCells N (tdo_cells first number tap instruction bypass ident boundary tdo) → IsRun N given events moment
      → (L : TestLogic) (levels : ℕ → Levels) (captured : ℕ → List Sig) (machine : ℕ → Machine) → IsHistory L levels captured (length events) machine
      → ((t : ℕ) → t ≤ length events → Presents tap instruction bypass ident boundary (levels t) (machine t).state (selected_register (in_effect L (machine t)))
      (bit_of (selected_register (in_effect L (machine t))) (machine t)) (first_bit (machine t).shift) (moment t))
      → (t : ℕ) → t ≤ length events → tdo_given_by first (moment t) ≡ (machine t).tdo

abbrev pub TdoFollows : Type 0
TdoFollows = (first number : ℕ) (tap : TapNets) (instruction : InstrNets) (bypass : NetId) (ident : Option NetId) (boundary tdo : NetId)
    → TdoLaws first number tap instruction bypass ident boundary tdo

-- own: a falling edge in Test-Logic-Reset lets TDO go, whatever is selected
abbrev pub TdoLetsGo : Type 0
TdoLetsGo = (first number : ℕ) (tap : TapNets) (instruction : InstrNets) (bypass : NetId) (ident : Option NetId) (boundary tdo : NetId) (N : NetlistView) (event : PinEvent)
    (before after : Levels) (m m' : Moment) → IsWellFormed N → HasCells N (tdo_cells first number tap instruction bypass ident boundary tdo)
    → IsSettled N m.pins m.state m.value → IsStep N event m m' → Carries tap.tck tap.trst before m → Carries tap.tck tap.trst after m' → ShowsState tap TestLogicReset m
    → edge_of before.tck after.tck ≡ Some Fall → tdo_given_by first m' ≡ HighZ
