-- A netlist that comes to a run of the wrapped chip by itself, whatever its test logic held: by five rising edges of
-- TCK with TMS at 1, and then a falling edge.
-- IEEE Std 1149.1-2001: TAP controller, test access port; what holds of the pins from there on is own.
use Rattle.std.specs.Prelude.{◌≡◌, ◌≤◌, ℕ, suc, ◌+◌, true, List, [], map, length, drop, slice_get, Some, None}
use Rattle.signal_values.specs.declared.Sig.{Sig}
use Rattle.signal_values.specs.declared.PinSig.{PinSig}
use Rattle.signal_values.specs.declared.PinSig.TheVariants.{HighZ}
use Rattle.cell_library.specs.declared.Edge.TheVariants.{Fall}
use Rattle.cell_library.specs.declared.FlopKind.{FlopKind}
use Rattle.cell_library.specs.Gates.{flop_of}
use Rattle.cell_library.specs.Laws.{IsKnown}
use Rattle.netlist_model.specs.Lists.{CellView, NetlistView, cell_at}
use Rattle.netlist_model.specs.Cones.{IsControlPort}
use Rattle.netlist_model.specs.Formed.{IsWellFormed}
use Rattle.netlist_model.specs.Runs.{IsKnownPin, FlopsStart, Moment, PinEvent, IsRun, reading_at}
use Rattle.test_logic.specs.declared.Levels.{Levels}
use Rattle.test_logic.specs.declared.TapState.TheVariants.{TestLogicReset}
use Rattle.test_logic.specs.Instructions.{is_transparent, reset_opcode}
use Rattle.test_logic.specs.Rises.{rises, RisesWithOnes}
use Rattle.test_logic.specs.Machine.{TestLogic, Machine, reset, edge_of, in_effect, test_logic_of}
use Rattle.test_logic.specs.bsdl_device.declared.values.Device.{Device}
use Rattle.wrapped_chip.specs.ChipRuns.{ChipMoment, ChipEvent, IsChipLegal, IsChipSettled, IsChipStep, IsChipRun, chip_pins_after, levels_after}
use Rattle.wrapped_chip.specs.Suits.{Suits, IsRead}
use Rattle.wrapped_chip.specs.Realises.{SameOutside, SameEvents, ReadsAsChipBy, ReadsAsChip, ReadsBit, core_events, IsAlone}

-- Runs from any machine.

-- moment 0 has this machine, whatever led there, and the netlist's flip-flops have any values but where RN or SN is 0;
-- moment t + 1 follows by event t
pub record IsChipRunFrom (begun : Machine) (B : Device) (N : NetlistView) (given : ℕ → Sig) (events : List ChipEvent) (chip : ℕ → ChipMoment) : Type 0 where
  pub machine : (chip 0).machine ≡ begun
  pub controls : (net : ℕ) → IsControlPort N net → IsKnownPin ((chip 0).pins net)
  pub settled : IsChipSettled B N (chip 0)
  pub flops : FlopsStart N given (chip 0).value (chip 0).state
  pub steps : (t : ℕ) (event : ChipEvent) → slice_get events t ≡ Some event → IsChipStep B N event (chip t) (chip (suc t))

-- a run from a power-up is one from reset
abbrev pub PowerUpsRunFromReset : Type 0
PowerUpsRunFromReset = (B : Device) (N : NetlistView) (given : ℕ → Sig) (events : List ChipEvent) (chip : ℕ → ChipMoment) → IsChipRun B N given events chip
    → IsChipRunFrom (reset (test_logic_of B)) B N given events chip

-- a stretch of a run at each moment of which the instruction in effect is transparent
pub record IsTransparentStretch (B : Device) (events : List ChipEvent) (chip : ℕ → ChipMoment) (first last : ℕ) : Type 0 where
  pub ends : (first ≤ last) × (last ≤ length events)
  pub transparent : (t : ℕ) → first ≤ t → t ≤ last → is_transparent (in_effect (test_logic_of B) (chip t).machine) ≡ true

-- over each such stretch N alone has a run from what it then holds, and in each such run it reads as M does
pub record StretchesAreAlone (M : NetlistView) (B : Device) (N : NetlistView) (events : List ChipEvent) (chip : ℕ → ChipMoment) (moment : ℕ → Moment) : Type 0 where
  pub some : (first last : ℕ) → IsTransparentStretch B events chip first last → (inner : ℕ → Moment) × IsAlone N events chip moment first last inner
  pub each : (first last : ℕ) (inner : ℕ → Moment) → IsTransparentStretch B events chip first last → IsAlone N events chip moment first last inner
      → (t : ℕ) → first ≤ t → t ≤ last → (net : ℕ) → IsRead N net → ReadsBit M N (moment t) net (reading_at N (inner (length (core_events events first t))) net)

-- so it is where M reads as the chip at each moment of a run from any machine
abbrev pub RunsFromAreAlone : Type 0
RunsFromAreAlone = (M : NetlistView) (begun : Machine) (B : Device) (N : NetlistView) (given : ℕ → Sig) (events : List ChipEvent) (chip : ℕ → ChipMoment) (moment : ℕ → Moment)
    → IsWellFormed N → Suits B N → IsChipRunFrom begun B N given events chip → ((t : ℕ) → t ≤ length events → ReadsAsChip M B N (moment t) (chip t))
    → StretchesAreAlone M B N events chip moment

-- Home.

-- what is outside the chip at each moment of these events; of each moment the pins and the levels alone count
pub record IsOutside (N : NetlistView) (events : List ChipEvent) (outside : ℕ → ChipMoment) : Type 0 where
  pub controls : (net : ℕ) → IsControlPort N net → IsKnownPin ((outside 0).pins net)
  pub legal : (t : ℕ) (event : ChipEvent) → slice_get events t ≡ Some event → IsChipLegal N event
  pub levels : (t : ℕ) (event : ChipEvent) → slice_get events t ≡ Some event → (outside (suc t)).levels ≡ levels_after (outside t).levels event
  pub pins : (t : ℕ) (event : ChipEvent) → slice_get events t ≡ Some event → (net : ℕ) → (outside (suc t)).pins net ≡ chip_pins_after (outside t).pins event net

-- so it is of what is left of them from any moment on
abbrev pub OutsideGoesOn : Type 0
OutsideGoesOn = (N : NetlistView) (events : List ChipEvent) (outside : ℕ → ChipMoment) (first : ℕ) → first ≤ length events → IsOutside N events outside
    → IsOutside N (drop first events) (λ t. outside (first + t))

-- own: each flip-flop of M that N hasn't is 0 or 1
abbrev pub AreBits : NetlistView → NetlistView → (ℕ → Sig) → Type 0
AreBits M N start = (i : ℕ) (cell : CellView) (kind : FlopKind) → cell_at M i ≡ Some cell → flop_of M.library cell.kind ≡ Some kind → cell_at N i ≡ None → IsKnown (start i)

-- a run of M by these events from any level of TRST, in which each flip-flop that was added starts at 0 or 1, and each
-- of the core at anything
pub record IsRunFromBits (M N : NetlistView) (events : List ChipEvent) (outside : ℕ → ChipMoment) (moment : ℕ → Moment) : Type 0 where
  pub start : ℕ → Sig
  pub bits : AreBits M N start
  pub same_pins : SameOutside M N (outside 0) (moment 0).pins
  pub there : List PinEvent
  pub same_events : SameEvents M N events there
  pub run : IsRun M start there moment

-- up to this moment TCK rose five times or more, each time with TMS at 1, and then it falls
pub record FallsHome (levels : ℕ → Levels) (t : ℕ) : Type 0 where
  pub ones : RisesWithOnes levels t
  pub five : 5 ≤ rises levels t
  pub falls : edge_of (levels t).tck (levels (suc t)).tck ≡ Some Fall

-- Test-Logic-Reset with its opcode latched and TDO let go; each register holds as many bits as it has,
-- whatever they are
pub record IsHome (L : TestLogic) (machine : Machine) : Type 0 where
  pub state : machine.state ≡ TestLogicReset
  pub latched : machine.latched ≡ reset_opcode L.opcodes
  pub tdo : machine.tdo ≡ HighZ
  pub shift : length machine.shift ≡ length L.capture
  pub ident : length machine.ident ≡ length L.code
  pub boundary : length machine.boundary ≡ length L.kinds
  pub update : length machine.update ≡ length L.kinds

-- what TDO is to read at each moment of a run of the chip, by what registers beside the chip's hold at the first
abbrev pub HeldTdo : Type 0
HeldTdo = List (List Sig) → (ℕ → ChipMoment) → ℕ → PinSig

-- what the chip's TDO reads, whatever they hold
abbrev pub home_tdo : HeldTdo
home_tdo held chip t = (chip t).machine.tdo

-- from this moment on M reads as the chip does in a run from such a machine, by the events that are left and with
-- what is then outside; and at TDO as this says by what registers of these lengths then hold, whatever it is
pub record ReadsFromHomeBy (M : NetlistView) (B : Device) (N : NetlistView) (lengths : List ℕ) (tdo : HeldTdo) (events : List ChipEvent) (outside : ℕ → ChipMoment)
    (moment : ℕ → Moment) (home : ℕ) : Type 0 where
  pub machine : Machine
  pub is_home : IsHome (test_logic_of B) machine
  pub held : List (List Sig)
  pub long : map (λ (xs : List Sig). length xs) held ≡ lengths
  pub chip : ℕ → ChipMoment
  pub run : IsChipRunFrom machine B N (moment home).state (drop home events) chip
  pub levels : (t : ℕ) → (chip t).levels ≡ (outside (home + t)).levels
  pub pins : (t net : ℕ) → (chip t).pins net ≡ (outside (home + t)).pins net
  pub reads : (t : ℕ) → t ≤ length (drop home events) → ReadsAsChipBy M B N (moment (home + t)) (chip t) (tdo held chip t)

-- without such registers it reads as the chip at TDO too
abbrev pub ReadsFromHome : NetlistView → Device → NetlistView → List ChipEvent → (ℕ → ChipMoment) → (ℕ → Moment) → ℕ → Type 0
ReadsFromHome M B N events outside moment home = ReadsFromHomeBy M B N [] home_tdo events outside moment home

-- M finds home: in each such run, at the falling edge after five rising edges with TMS at 1
abbrev pub FindsHomeBy : NetlistView → Device → NetlistView → List ℕ → HeldTdo → Type 0
FindsHomeBy M B N lengths tdo = (events : List ChipEvent) (outside : ℕ → ChipMoment) (moment : ℕ → Moment) → IsOutside N events outside → IsRunFromBits M N events outside moment
    → (t : ℕ) → suc t ≤ length events → FallsHome (λ u. (outside u).levels) t → ReadsFromHomeBy M B N lengths tdo events outside moment (suc t)

abbrev pub FindsHome : NetlistView → Device → NetlistView → Type 0
FindsHome M B N = FindsHomeBy M B N [] home_tdo

-- and from there on it reads as N alone while a transparent instruction is in effect
abbrev pub AloneFromHomeBy : NetlistView → Device → NetlistView → List ℕ → HeldTdo → Type 0
AloneFromHomeBy M B N lengths tdo = (events : List ChipEvent) (outside : ℕ → ChipMoment) (moment : ℕ → Moment) (home : ℕ)
    (from : ReadsFromHomeBy M B N lengths tdo events outside moment home) → StretchesAreAlone M B N (drop home events) from.chip (λ t. moment (home + t))

abbrev pub AloneFromHome : NetlistView → Device → NetlistView → Type 0
AloneFromHome M B N = AloneFromHomeBy M B N [] home_tdo

abbrev pub HomeIsAloneBy : Type 0
HomeIsAloneBy = (M : NetlistView) (B : Device) (N : NetlistView) (lengths : List ℕ) (tdo : HeldTdo) → IsWellFormed N → Suits B N → AloneFromHomeBy M B N lengths tdo

abbrev pub HomeIsAlone : Type 0
HomeIsAlone = (M : NetlistView) (B : Device) (N : NetlistView) → IsWellFormed N → Suits B N → AloneFromHome M B N
