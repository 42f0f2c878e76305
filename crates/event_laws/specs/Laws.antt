-- Laws of events, one turn at a time.
use Rattle.std.specs.Prelude.{◌≡◌, ◌↔◌, ℕ, ◌+◌, ◌≤◌, List, Some, if◌then◌else◌}
use Rattle.cell_library.specs.declared.Kind.{Kind}
use Rattle.cell_library.specs.declared.listed.ListedCell.{ListedCell}
use Rattle.cell_library.specs.Gates.{is_flop}
use Rattle.event_laws.specs.Counts.{IsCounted, gate_count, touched_count}
use Rattle.signal_values.specs.declared.Sig.{Sig}
use Rattle.signal_values.specs.declared.PinSig.{PinSig}
use Rattle.netlist_model.specs.Lists.{CellView, NetlistView, cell_at, direction}
use Rattle.netlist_model.specs.Settled.{driver_of}
use Rattle.netlist_model.specs.Readings.{reading, reading_of}
use Rattle.netlist_model.specs.Formed.{IsWellFormed}
use Rattle.netlist_model.specs.Runs.{Moment, PinEvent, IsLegal, IsStart, IsStep, pins_after}
use Rattle.event_laws.specs.Turns.{AreTurns}
use Rattle.event_laws.specs.Work.{Event, IsPending, TakesTurn, Requeues, IsAtRest, AreDriven, kept_drive, TakesPin, IsFirst, IsFrontier}

-- own: a start is at rest
abbrev pub StartsRest : Type 0
StartsRest = (N : NetlistView) (given : ℕ → Sig) (m : Moment) (drive : ℕ → PinSig) → IsWellFormed N → IsStart N given m → AreDriven N m.value drive → IsAtRest N m.pins m.value m.state drive

-- own: where a pin takes a value, what waits on its net is queued
abbrev pub EventQueues : Type 0
EventQueues = (N : NetlistView) (turn : ℕ → ℕ) (event : PinEvent) (pins pins' : ℕ → PinSig) (value value' state : ℕ → Sig) (drive : ℕ → PinSig) (queued : ℕ → ℕ) (from : ℕ) → IsWellFormed N → AreTurns N turn
    → IsLegal N event → IsAtRest N pins value state drive → TakesPin N event pins pins' value value' → ((t : ℕ) → (queued t ≡ 1) ↔ IsFirst N turn event.net value value' t) → IsFrontier N turn event.net from
    → IsPending N turn (record { pins = pins'; before = value; old = state }) value' state drive queued from

-- own: the first turn that is queued is taken, and those that wait on what changed are queued
abbrev pub TurnKeeps : Type 0
TurnKeeps = (N : NetlistView) (turn : ℕ → ℕ) (e : Event) (value state value' state' : ℕ → Sig) (drive drive' : ℕ → PinSig) (queued queued' : ℕ → ℕ) (from number : ℕ) (cell : CellView) → IsWellFormed N → AreTurns N turn
    → cell_at N number ≡ Some cell → queued (turn number) ≡ 1 → ((t : ℕ) → queued t ≡ 1 → turn number ≤ t) → TakesTurn N e number cell value state drive value' state' drive'
    → Requeues N turn number cell value value' queued queued' → IsPending N turn e value state drive queued from
    → IsPending N turn e value' state' drive' queued' (turn number + 1)

-- own: where nothing is queued any more, it is a step, and at rest
pub record IsStepped (N : NetlistView) (event : PinEvent) (pins pins' : ℕ → PinSig) (value state value' state' : ℕ → Sig) (drive' : ℕ → PinSig) : Type 0 where
  pub step : IsStep N event (record { pins = pins; state = state; value = value }) (record { pins = pins'; state = state'; value = value' })
  pub rest : IsAtRest N pins' value' state' drive'

abbrev pub EventSteps : Type 0
EventSteps = (N : NetlistView) (turn : ℕ → ℕ) (event : PinEvent) (pins pins' : ℕ → PinSig) (value state value' state' : ℕ → Sig) (drive' : ℕ → PinSig) (queued : ℕ → ℕ) (from : ℕ) → IsWellFormed N → IsLegal N event
    → ((net : ℕ) → pins' net ≡ pins_after pins event net) → ((t : ℕ) → queued t ≡ 1 → ⊥)
    → IsPending N turn (record { pins = pins'; before = value; old = state }) value' state' drive' queued from
    → IsStepped N event pins pins' value state value' state' drive'

-- own: how many steps a cell's turn takes: one of a gate, and none of a flip-flop
abbrev pub steps_of : List ListedCell → Kind → ℕ
steps_of library kind = if is_flop library kind then 0 else 1

-- own: before the first turn no step is taken
abbrev pub CountBegins : Type 0
CountBegins = (N : NetlistView) (turn : ℕ → ℕ) (before after : ℕ → Sig) (from : ℕ) → IsCounted N turn before after from 0

-- own: a turn's step is counted
abbrev pub TurnCounts : Type 0
TurnCounts = (N : NetlistView) (turn : ℕ → ℕ) (e : Event) (value state value' state' : ℕ → Sig) (drive drive' : ℕ → PinSig) (queued : ℕ → ℕ) (from number steps : ℕ) (cell : CellView) → IsWellFormed N → AreTurns N turn
    → cell_at N number ≡ Some cell → queued (turn number) ≡ 1 → TakesTurn N e number cell value state drive value' state' drive' → IsPending N turn e value state drive queued from
    → IsCounted N turn e.before value from steps → IsCounted N turn e.before value' (turn number + 1) (steps + steps_of N.library cell.kind)

-- own: in the end at most as many steps were taken as gates have an operand on a net that changed
abbrev pub CountEnds : Type 0
CountEnds = (N : NetlistView) (turn : ℕ → ℕ) (before after : ℕ → Sig) (from steps : ℕ) → IsCounted N turn before after from steps → steps ≤ touched_count N before after

-- own: never are more gates touched than there are, and none where no value differs
abbrev pub TouchedAreGates : Type 0
TouchedAreGates = (N : NetlistView) (before after : ℕ → Sig) → touched_count N before after ≤ gate_count N

abbrev pub NoneIsTouched : Type 0
NoneIsTouched = (N : NetlistView) (before after : ℕ → Sig) → ((net : ℕ) → after net ≡ before net) → touched_count N before after ≡ 0

-- own: at rest a reading is had from what is kept
abbrev pub RestReads : Type 0
RestReads = (N : NetlistView) (pins : ℕ → PinSig) (value state : ℕ → Sig) (drive : ℕ → PinSig) (net : ℕ) → IsAtRest N pins value state drive
    → reading N pins value net ≡ reading_of (direction N.ports net) (kept_drive (driver_of N.cells net) value drive net) (pins net)
