-- How far an event is: which cells agree with the values of the nets, and which have their turn to come.
use Rattle.std.specs.Prelude.{true, Option, None, if◌then◌else◌, ◌≡◌, ◌≢◌, ◌↔◌, ◌⊎◌, ℕ, ◌<◌, ◌≤◌, Some}
use Rattle.signal_values.specs.declared.Sig.{Sig}
use Rattle.signal_values.specs.declared.PinSig.{PinSig}
use Rattle.signal_values.specs.Values.{pin_of}
use Rattle.netlist_model.specs.Lists.{CellView, NetlistView, cell_at, direction, Drives, IsUndriven}
use Rattle.signal_values.specs.declared.Sig.TheVariants.{Unknown}
use Rattle.cell_library.specs.Gates.{is_three_state}
use Rattle.netlist_model.specs.Settled.{feed_values, cell_drive, pin_rule}
use Rattle.netlist_model.specs.Runs.{PinEvent, pins_after}
use Rattle.netlist_model.specs.LawsRuns.{kind_next}
use Rattle.netlist_settling.specs.Passes.{undriven_value, driven_value}
use Rattle.event_laws.specs.Turns.{WaitsOn}

-- own: the pins of an event, and the nets and the flip-flops before it
pub record Event : Type 0 where
  pub pins : ℕ → PinSig
  pub before : ℕ → Sig
  pub old : ℕ → Sig

-- own: a cell keeps and gives what it does after the event, where the nets have these values
pub record IsDone (N : NetlistView) (e : Event) (value state : ℕ → Sig) (drive : ℕ → PinSig) (number : ℕ) (cell : CellView) : Type 0 where
  pub keeps : state number ≡ kind_next N.library cell.kind (feed_values e.before cell.feeds) (feed_values value cell.feeds) (e.old number)
  pub gives : (net : ℕ) → cell.output ≡ Some (record { 0 = net })
      → value net ≡ driven_value N.library (direction N.ports net) cell.kind (feed_values value cell.feeds) (state number) (e.pins net)
  pub shows : (net : ℕ) → cell.output ≡ Some (record { 0 = net }) → is_three_state cell.kind ≡ true
      → drive net ≡ cell_drive cell.kind (feed_values value cell.feeds) Unknown

-- own: a cell waits on a net that changed, and its turn is to come
pub record IsWaiting (N : NetlistView) (turn : ℕ → ℕ) (e : Event) (value : ℕ → Sig) (from t : ℕ) : Type 0 where
  pub number : ℕ
  pub net : ℕ
  pub waits : WaitsOn N number net
  pub changed : value net ≢ e.before net
  pub there : turn number ≡ t
  pub later : from ≤ t

-- own: `queued` is 1 at the turns that are queued; each cell whose turn isn't agrees; nets and flip-flops whose turn is
-- to come are as before; and what is queued has its reason
pub record IsPending (N : NetlistView) (turn : ℕ → ℕ) (e : Event) (value state : ℕ → Sig) (drive : ℕ → PinSig) (queued : ℕ → ℕ) (from : ℕ) : Type 0 where
  pub done : (number : ℕ) (cell : CellView) → cell_at N number ≡ Some cell → (queued (turn number) ≡ 1 → ⊥) → IsDone N e value state drive number cell
  pub free : (net : ℕ) → IsUndriven N net → value net ≡ undriven_value (direction N.ports net) (e.pins net)
  pub later : (number : ℕ) (cell : CellView) (net : ℕ) → Drives N number cell net → from ≤ turn number → value net ≡ e.before net
  pub kept : (number : ℕ) (cell : CellView) → cell_at N number ≡ Some cell → from ≤ turn number → state number ≡ e.old number
  pub queue : (t : ℕ) → queued t ≡ 1 → IsWaiting N turn e value from t

-- own: the turn of a cell
pub record TakesTurn (N : NetlistView) (e : Event) (number : ℕ) (cell : CellView) (value state : ℕ → Sig) (drive : ℕ → PinSig) (value' state' : ℕ → Sig) (drive' : ℕ → PinSig) : Type 0 where
  pub keeps : state' number ≡ kind_next N.library cell.kind (feed_values e.before cell.feeds) (feed_values value cell.feeds) (e.old number)
  pub states : (other : ℕ) → other ≢ number → state' other ≡ state other
  pub gives : (net : ℕ) → cell.output ≡ Some (record { 0 = net })
      → value' net ≡ driven_value N.library (direction N.ports net) cell.kind (feed_values value cell.feeds) (state' number) (e.pins net)
  pub others : (net : ℕ) → cell.output ≢ Some (record { 0 = net }) → value' net ≡ value net
  pub shows : (net : ℕ) → cell.output ≡ Some (record { 0 = net }) → is_three_state cell.kind ≡ true
      → drive' net ≡ cell_drive cell.kind (feed_values value cell.feeds) Unknown
  pub drives : (net : ℕ) → cell.output ≢ Some (record { 0 = net }) → drive' net ≡ drive net

-- own: a net of this cell changed, on which a cell with this turn waits
pub record IsWoken (N : NetlistView) (turn : ℕ → ℕ) (cell : CellView) (value value' : ℕ → Sig) (t : ℕ) : Type 0 where
  pub net : ℕ
  pub reader : ℕ
  pub output : cell.output ≡ Some (record { 0 = net })
  pub changed : value' net ≢ value net
  pub waits : WaitsOn N reader net
  pub there : turn reader ≡ t

-- own: the queue after a cell's turn
abbrev pub Requeues : NetlistView → (ℕ → ℕ) → ℕ → CellView → (ℕ → Sig) → (ℕ → Sig) → (ℕ → ℕ) → (ℕ → ℕ) → Type 0
Requeues N turn number cell value value' queued queued' =
    (t : ℕ) → (queued' t ≡ 1) ↔ (((t ≢ turn number) × (queued t ≡ 1)) ⊎ IsWoken N turn cell value value' t)

-- own: nothing is to be done: the moment between two events
pub record IsAtRest (N : NetlistView) (pins : ℕ → PinSig) (value state : ℕ → Sig) (drive : ℕ → PinSig) : Type 0 where
  pub done : (number : ℕ) (cell : CellView) → cell_at N number ≡ Some cell → IsDone N (record { pins = pins; before = value; old = state }) value state drive number cell
  pub free : (net : ℕ) → IsUndriven N net → value net ≡ undriven_value (direction N.ports net) (pins net)

-- own: the pin of a net takes a value, and the net what it then sees
pub record TakesPin (N : NetlistView) (event : PinEvent) (pins pins' : ℕ → PinSig) (value value' : ℕ → Sig) : Type 0 where
  pub pinned : (net : ℕ) → pins' net ≡ pins_after pins event net
  pub given : value' event.net ≡ pin_rule N pins' value event.net
  pub others : (net : ℕ) → net ≢ event.net → value' net ≡ value net

-- own: a cell with this turn waits on the net of the event, which changed
pub record IsFirst (N : NetlistView) (turn : ℕ → ℕ) (net : ℕ) (value value' : ℕ → Sig) (t : ℕ) : Type 0 where
  pub reader : ℕ
  pub changed : value' net ≢ value net
  pub waits : WaitsOn N reader net
  pub there : turn reader ≡ t

-- own: the turns to come are those from this one on: past the driver of the event's net
pub record IsFrontier (N : NetlistView) (turn : ℕ → ℕ) (net from : ℕ) : Type 0 where
  pub driver : (number : ℕ) (cell : CellView) → Drives N number cell net → turn number < from
  pub readers : (reader : ℕ) → WaitsOn N reader net → from ≤ turn reader

-- own: what each three-state gate gives its net is kept by that net
pub record AreDriven (N : NetlistView) (value : ℕ → Sig) (drive : ℕ → PinSig) : Type 0 where
  pub each : (number : ℕ) (cell : CellView) (net : ℕ) → Drives N number cell net → is_three_state cell.kind ≡ true
      → drive net ≡ cell_drive cell.kind (feed_values value cell.feeds) Unknown

-- own: what a net's driver gives it, from what is kept: that of a three-state gate by its net, and else the net's value
abbrev pub kept_drive : Option CellView → (ℕ → Sig) → (ℕ → PinSig) → ℕ → PinSig
kept_drive None value drive net = pin_of (value net)
kept_drive (Some cell) value drive net = if is_three_state cell.kind then drive net else pin_of (value net)
