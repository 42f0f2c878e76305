-- A netlist keeps another's ports and cells, and behaves as it does in a device's test logic, or alone.
-- Own. For IEEE Std 1149.1-2001 (normal operation of the system logic under BYPASS, IDCODE, USERCODE, SAMPLE and
-- PRELOAD) see `Alone`.
use Rattle.std.specs.Prelude.{◌≡◌, ◌≤◌, ℕ, ◌+◌, true, List, [], ◌∷◌, ◌++◌, map, length, slice_get, slice_range, filter_map, Option, Some, None, option_map}
use Rattle.signal_values.specs.declared.Sig.{Sig}
use Rattle.signal_values.specs.declared.PinSig.{PinSig}
use Rattle.signal_values.specs.Values.{bit, pin_of}
use Rattle.cell_library.specs.declared.Kind.{Kind}
use Rattle.netlist_model.specs.declared.Name.{Name}
use Rattle.netlist_model.specs.declared.Range.{Range}
use Rattle.netlist_model.specs.declared.Dir.{Dir}
use Rattle.netlist_model.specs.declared.Dir.TheVariants.{Input, Output}
use Rattle.netlist_model.specs.Lists.{CellView, NetlistView, PortView, cell_at, bit_net, direction}
use Rattle.netlist_model.specs.Settled.{follows_pin}
use Rattle.netlist_model.specs.Runs.{Moment, PinEvent, IsRun, reading_at}
use Rattle.netlist_model.specs.Settle.{SameFlops}
use Rattle.test_logic.specs.declared.TapInput.{TapInput}
use Rattle.test_logic.specs.declared.TapInput.TheVariants.{Tck, Tms, Tdi, Trst}
use Rattle.test_logic.specs.Instructions.{is_transparent}
use Rattle.test_logic.specs.Machine.{in_effect, test_logic_of}
use Rattle.test_logic.specs.bsdl_device.declared.written.TapNames.{TapNames}
use Rattle.test_logic.specs.bsdl_device.declared.values.Device.{Device}
use Rattle.wrapped_chip.specs.Cells.{chip_reading}
use Rattle.wrapped_chip.specs.Suits.{IsRead}
use Rattle.wrapped_chip.specs.ChipRuns.{ChipMoment, ChipEvent, at_pin, at_tap, core_event, level_of, IsChipRun}

-- a port as a text tells it, by its name's bytes
pub record PortText : Type 0 where
  pub name : List ℕ
  pub dir : Dir
  pub range : Option Range

abbrev pub port_text : (Name → List ℕ) → PortView → PortText
port_text spelt port = record { name = spelt port.name; dir = port.dir; range = port.range }

-- the ports of a test access port, by their names
abbrev pub tap_ports : TapNames → List PortText
tap_ports tap = record { name = tap.tck; dir = Input; range = None } ∷ record { name = tap.tms; dir = Input; range = None }
    ∷ record { name = tap.tdi; dir = Input; range = None } ∷ record { name = tap.tdo; dir = Output; range = None }
    ∷ record { name = tap.trst; dir = Input; range = None } ∷ []

-- a live cell has this kind and, by its bytes, this name
pub record IsCalled (M : NetlistView) (spelt : Name → List ℕ) (i : ℕ) (kind : Kind) (name : Option (List ℕ)) : Type 0 where
  pub cell : CellView
  pub live : cell_at M i ≡ Some cell
  pub kinds : cell.kind ≡ kind
  pub names : option_map spelt cell.name ≡ name

-- M has N's library; its ports are N's and then TCK, TMS, TDI, TDO and TRST, and its first cells have the kinds
-- and names of N's
pub record Keeps (M N : NetlistView) (spelt_in_M spelt_in_N : Name → List ℕ) (tap : TapNames) : Type 0 where
  pub library : M.library ≡ N.library
  pub ports : map (port_text spelt_in_M) M.ports ≡ map (port_text spelt_in_N) N.ports ++ tap_ports tap
  pub cells : (i : ℕ) (cell : CellView) → cell_at N i ≡ Some cell → IsCalled M spelt_in_M i cell.kind (option_map spelt_in_N cell.name)

-- a bit of N and its net there, and the net of the same bit in M
pub record SameBit (M N : NetlistView) (net net' : ℕ) : Type 0 where
  pub port : ℕ
  pub place : ℕ
  pub here : bit_net N port place ≡ Some (record { 0 = net })
  pub there : bit_net M port place ≡ Some (record { 0 = net' })

-- the place of an input of the test access port among those ports
abbrev pub tap_place : TapInput → ℕ
tap_place Tck = 0
tap_place Tms = 1
tap_place Tdi = 2
tap_place Trst = 4

-- the net in M of a port of the test access port
abbrev pub IsTapNet : NetlistView → NetlistView → ℕ → ℕ → Type 0
IsTapNet M N place net = bit_net M (length N.ports + place) 0 ≡ Some (record { 0 = net })

-- each pin of M has what is outside the chip's
pub record SameOutside (M N : NetlistView) (w : ChipMoment) (pins : ℕ → PinSig) : Type 0 where
  pub bits : (net net' : ℕ) → SameBit M N net net' → follows_pin (direction N.ports net) ≡ true → pins net' ≡ w.pins net
  pub tap : (input : TapInput) (net : ℕ) → IsTapNet M N (tap_place input) net → pins net ≡ pin_of (bit (level_of w.levels input))

-- the event of M at the same pin, with the same value
abbrev pub IsSameEvent : NetlistView → NetlistView → ChipEvent → PinEvent → Type 0
IsSameEvent M N (at_pin event) there = SameBit M N event.net there.net × (there.value ≡ event.value)
IsSameEvent M N (at_tap input level) there = IsTapNet M N (tap_place input) there.net × (there.value ≡ pin_of (bit level))

pub record SameEvents (M N : NetlistView) (events : List ChipEvent) (there : List PinEvent) : Type 0 where
  pub count : length there ≡ length events
  pub each : (t : ℕ) (event : ChipEvent) (other : PinEvent) → slice_get events t ≡ Some event → slice_get there t ≡ Some other → IsSameEvent M N event other

-- the same bit of M reads this; without such a bit nothing reads it
pub record ReadsBit (M N : NetlistView) (m : Moment) (net : ℕ) (wanted : PinSig) : Type 0 where
  pub there : ℕ
  pub same : SameBit M N net there
  pub reads : reading_at M m there ≡ wanted

pub record ReadsTdo (M N : NetlistView) (m : Moment) (wanted : PinSig) : Type 0 where
  pub there : ℕ
  pub tap : IsTapNet M N 3 there
  pub reads : reading_at M m there ≡ wanted

-- M reads as the chip does at each output and inout bit, and this at TDO, and its first flip-flops hold what the
-- chip's hold
pub record ReadsAsChipBy (M : NetlistView) (B : Device) (N : NetlistView) (m : Moment) (w : ChipMoment) (wanted : PinSig) : Type 0 where
  pub bits : (net : ℕ) → IsRead N net → ReadsBit M N m net (chip_reading B N w.machine w.pins w.value net)
  pub tdo : ReadsTdo M N m wanted
  pub kept : SameFlops N m.state w.state

-- it reads as the chip does at TDO too
abbrev pub ReadsAsChip : NetlistView → Device → NetlistView → Moment → ChipMoment → Type 0
ReadsAsChip M B N m w = ReadsAsChipBy M B N m w w.machine.tdo

-- a run of M from the pins of the chip's power-up, by the same events, with the core's flip-flops as given and all
-- others anything
pub record IsRunBeside (M : NetlistView) (B : Device) (N : NetlistView) (given : ℕ → Sig) (events : List ChipEvent) (chip : ℕ → ChipMoment) (moment : ℕ → Moment) : Type 0 where
  pub start : ℕ → Sig
  pub same_flops : SameFlops N start given
  pub same_pins : SameOutside M N (chip 0) (moment 0).pins
  pub there : List PinEvent
  pub same_events : SameEvents M N events there
  pub run : IsRun M start there moment

-- for each run of the chip and any values of the other flip-flops M has such a run, and each such run reads as the
-- chip at every moment, and at TDO as this says
pub record RealisesBy (M : NetlistView) (B : Device) (N : NetlistView) (tdo : (ℕ → ChipMoment) → ℕ → PinSig) : Type 0 where
  pub some : (given start : ℕ → Sig) (events : List ChipEvent) (chip : ℕ → ChipMoment) → IsChipRun B N given events chip → SameFlops N start given
      → (moment : ℕ → Moment) × (beside : IsRunBeside M B N given events chip moment) × (beside.start ≡ start)
  pub each : (given : ℕ → Sig) (events : List ChipEvent) (chip : ℕ → ChipMoment) (moment : ℕ → Moment) → IsChipRun B N given events chip
      → IsRunBeside M B N given events chip moment → (t : ℕ) → t ≤ length events → ReadsAsChipBy M B N (moment t) (chip t) (tdo chip t)

-- TDO as the chip's own
abbrev pub chip_tdo : (ℕ → ChipMoment) → ℕ → PinSig
chip_tdo chip t = (chip t).machine.tdo

abbrev pub Realises : NetlistView → Device → NetlistView → Type 0
Realises M B N = RealisesBy M B N chip_tdo

-- a stretch of a run of the chip, and of M beside it, at each moment of which the instruction in effect is transparent
pub record IsStretch (M : NetlistView) (B : Device) (N : NetlistView) (events : List ChipEvent) (chip : ℕ → ChipMoment) (moment : ℕ → Moment) (first last : ℕ) : Type 0 where
  pub given : ℕ → Sig
  pub run : IsChipRun B N given events chip
  pub beside : IsRunBeside M B N given events chip moment
  pub ends : (first ≤ last) × (last ≤ length events)
  pub transparent : (t : ℕ) → first ≤ t → t ≤ last → is_transparent (in_effect (test_logic_of B) (chip t).machine) ≡ true

-- the events between two moments that name pins of N
abbrev pub core_events : List ChipEvent → ℕ → ℕ → List PinEvent
core_events events first last = filter_map core_event (slice_range events first last)

-- N from the pins and M's first flip-flops of the stretch's first moment, by its events at N's pins
pub record IsAlone (N : NetlistView) (events : List ChipEvent) (chip : ℕ → ChipMoment) (moment : ℕ → Moment) (first last : ℕ) (inner : ℕ → Moment) : Type 0 where
  pub pins : (net : ℕ) → (inner 0).pins net ≡ (chip first).pins net
  pub run : IsRun N (moment first).state (core_events events first last) inner

-- over each stretch N has such a run, and in each such run it reads as M does, after as many events as named N's pins
pub record Alone (M : NetlistView) (B : Device) (N : NetlistView) : Type 0 where
  pub some : (events : List ChipEvent) (chip : ℕ → ChipMoment) (moment : ℕ → Moment) (first last : ℕ) → IsStretch M B N events chip moment first last
      → (inner : ℕ → Moment) × IsAlone N events chip moment first last inner
  pub each : (events : List ChipEvent) (chip : ℕ → ChipMoment) (moment : ℕ → Moment) (first last : ℕ) (inner : ℕ → Moment) → IsStretch M B N events chip moment first last
      → IsAlone N events chip moment first last inner → (t : ℕ) → first ≤ t → t ≤ last → (net : ℕ) → IsRead N net
      → ReadsBit M N (moment t) net (reading_at N (inner (length (core_events events first t))) net)
