-- A start and a list of legal events have exactly one run, and an event that repeats the present value
-- changes nothing in it.
use Rattle.std.specs.Prelude.{◌≡◌, ℕ, suc, ◌≤◌, List, length, slice_get, Option, Some, None, All}
use Rattle.cell_library.specs.signal_values.declared.Sig.{Sig}
use Rattle.cell_library.specs.signal_values.declared.PinSig.{PinSig}
use Rattle.cell_library.specs.declared.Kind.{Kind}
use Rattle.cell_library.specs.declared.FlopKind.{FlopKind}
use Rattle.cell_library.specs.declared.listed.ListedCell.{ListedCell}
use Rattle.cell_library.specs.Gates.{flop_of}
use Rattle.cell_library.specs.Flops.{flop_next, flop_start}
use Rattle.netlist_model.specs.Lists.{CellView, NetlistView}
use Rattle.netlist_model.specs.Settled.{feed_values, IsSettled}
use Rattle.netlist_model.specs.Cones.{IsControlNet, IsControlPort}
use Rattle.netlist_model.specs.Formed.{IsWellFormed}
use Rattle.netlist_model.specs.Runs.{Moment, PinEvent, IsKnownPin, IsLegal, IsStep, IsRun}
use Rattle.netlist_model.specs.Settle.{SamePins, SameFlops}

-- own: what clocks, clears or presets flip-flops is the same
abbrev pub SameControlNets : NetlistView → (ℕ → Sig) → (ℕ → Sig) → Type 0
SameControlNets N v v' = (net : ℕ) → IsControlNet N net → v net ≡ v' net

-- own: what a cell holds at a start, where the nets have these values: a flip-flop its start value, and a
-- gate what is given
abbrev pub start_if : Option FlopKind → List Sig → Sig → Sig
start_if None inputs given = given
start_if (Some kind) inputs given = flop_start kind inputs given

abbrev pub kind_start : List ListedCell → Kind → List Sig → Sig → Sig
kind_start library kind inputs given = start_if (flop_of library kind) inputs given

abbrev pub cell_start : List ListedCell → Option CellView → (ℕ → Sig) → Sig → Sig
cell_start library None value given = given
cell_start library (Some cell) value given = kind_start library cell.kind (feed_values value cell.feeds) given

-- own: what a cell holds after a step: a flip-flop its next value, and a gate what was held
abbrev pub next_if : Option FlopKind → List Sig → List Sig → Sig → Sig
next_if None before after kept = kept
next_if (Some kind) before after kept = flop_next kind before after kept

abbrev pub kind_next : List ListedCell → Kind → List Sig → List Sig → Sig → Sig
kind_next library kind before after kept = next_if (flop_of library kind) before after kept

abbrev pub cell_next : List ListedCell → Option CellView → (ℕ → Sig) → (ℕ → Sig) → Sig → Sig
cell_next library None before after kept = kept
cell_next library (Some cell) before after kept = kind_next library cell.kind (feed_values before cell.feeds) (feed_values after cell.feeds) kept

-- own: two moments have the same pins, the same flip-flops and the same nets
pub record SameMoment (N : NetlistView) (m m' : Moment) : Type 0 where
  pub pins : SamePins N m.pins m'.pins
  pub flops : SameFlops N m.state m'.state
  pub value : (net : ℕ) → m.value net ≡ m'.value net

-- own: what is so at each moment of a run: the netlist is settled, and an event leads to the next moment
pub record IsMoment (N : NetlistView) (events : List PinEvent) (moment : ℕ → Moment) (t : ℕ) : Type 0 where
  pub settled : IsSettled N (moment t).pins (moment t).state (moment t).value
  pub step : suc t ≤ length events → (event : PinEvent) × (slice_get events t ≡ Some event) × IsStep N event (moment t) (moment (suc t))

abbrev pub RunHasMoments : Type 0
RunHasMoments = (N : NetlistView) (given : ℕ → Sig) (events : List PinEvent) (moment : ℕ → Moment) → IsRun N given events moment
    → (t : ℕ) → t ≤ length events → IsMoment N events moment t

-- own: from any pins that give control ports 0 or 1, any values of the flip-flops and any legal events there is a run
abbrev pub RunExists : Type 0
RunExists = (N : NetlistView) → IsWellFormed N → (pins : ℕ → PinSig) (given : ℕ → Sig) (events : List PinEvent)
    → ((net : ℕ) → IsControlPort N net → IsKnownPin (pins net)) → All (IsLegal N) events
    → (moment : ℕ → Moment) × IsRun N given events moment × ((net : ℕ) → (moment 0).pins net ≡ pins net)

-- own: and no other: two runs from the same pins and flip-flops by the same events are the same at each moment
abbrev pub RunOnce : Type 0
RunOnce = (N : NetlistView) (given given' : ℕ → Sig) (events : List PinEvent) (moment moment' : ℕ → Moment) → IsWellFormed N
    → IsRun N given events moment → IsRun N given' events moment' → SamePins N (moment 0).pins (moment' 0).pins → SameFlops N given given'
    → (t : ℕ) → t ≤ length events → SameMoment N (moment t) (moment' t)

-- own: in every run an event that gives a pin the value that it has changes nothing
abbrev pub RepeatsChangeNothing : Type 0
RepeatsChangeNothing = (N : NetlistView) (given : ℕ → Sig) (events : List PinEvent) (moment : ℕ → Moment) → IsWellFormed N → IsRun N given events moment
    → (t : ℕ) (event : PinEvent) → slice_get events t ≡ Some event → event.value ≡ (moment t).pins event.net → SameMoment N (moment t) (moment (suc t))
