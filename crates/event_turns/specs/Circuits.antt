-- The tables of a netlist for events.
use Rattle.std.specs.Prelude.{◌≡◌, ◌≢◌, ◌↔◌, ◌⊎◌, ℕ, ◌+◌, ◌-◌, ◌*◌, ◌<◌, ◌≤◌, ◌^◌, ◌∷◌, [], Bool, true, false, nat_lt, List, length, slice_get, slice_index, slice_range, Option, Some, None, if◌then◌else◌}
use Rattle.signal_values.specs.declared.Sig.{Sig}
use Rattle.signal_values.specs.declared.PinSig.{PinSig}
use Rattle.cell_library.specs.declared.listed.ListedCell.{ListedCell}
use Rattle.event_parts.specs.declared.counted_cells.pairs.Pair.{Pair}
use Rattle.event_parts.specs.Pairs.{AreTables, IsPair}
use Rattle.netlist_model.specs.declared.Dir.{Dir}
use Rattle.netlist_model.specs.declared.Dir.TheVariants.{Input, Output, Inout}
use Rattle.netlist_model.specs.declared.Feed.{Feed}
use Rattle.netlist_model.specs.declared.Feed.TheVariants.{Net}
use Rattle.netlist_model.specs.Lists.{CellView, NetlistView, cell_at, Drives, IsUndriven}
use Rattle.netlist_model.specs.Formed.{IsLaidOut, IsWellFormed}
use Rattle.netlist_settling.specs.Values.{AreSides, value_at, pin_at, side_at}
use Rattle.event_parts.specs.QueuesLaws.{IsIn, bit_of}
use Rattle.event_laws.specs.Turns.{WaitsOn, AreTurns}
use Rattle.event_laws.specs.Work.{Event, IsPending, TakesTurn, IsWoken}
use Rattle.event_laws.specs.Laws.{steps_of}
use Rattle.event_turns.specs.Values.{Sets}
use Rattle.event_laws.specs.Counts.{IsCounted, touched_count}
use Rattle.event_turns.specs.declared.circuit.Gate.{Gate}
use Rattle.event_turns.specs.declared.circuit.Row.{Row}

-- own: the turn of a cell, by its number
abbrev pub turn_at : List ℕ → ℕ → ℕ
turn_at turns number = slice_index turns number

-- own: the place of the gate that has this turn, where each of the three kinds of turns has so many
abbrev pub place_of : ℕ → ℕ → ℕ
place_of count turn = if nat_lt turn count then turn else if nat_lt turn (2 * count) then turn - count else turn - 2 * count

-- own: the operands of a gate
abbrev pub feeds_in : List Feed → Gate → List Feed
feeds_in feeds gate = slice_range feeds gate.first (gate.first + gate.count)

-- own: this is what is kept of a cell
pub record IsGateOf (feeds : List Feed) (number : ℕ) (cell : CellView) (gate : Gate) : Type 0 where
  pub number_is : gate.cell.0 ≡ number
  pub kind_is : gate.kind ≡ cell.kind
  pub output_is : gate.output ≡ cell.output
  pub few : gate.count ≤ 256
  pub room : gate.first + gate.count ≤ length feeds
  pub feeds_are : feeds_in feeds gate ≡ cell.feeds

-- own: a cell's gate stands in the place of its turn
pub record StandsInPlace (turns : List ℕ) (gates : List Gate) (feeds : List Feed) (number : ℕ) (cell : CellView) : Type 0 where
  pub gate : Gate
  pub there : slice_get gates (place_of (length gates) (turn_at turns number)) ≡ Some gate
  pub is_of : IsGateOf feeds number cell gate
  pub early : turn_at turns number < 3 * length gates

-- own: this is what is kept of some live cell
pub record IsLiveGate (N : NetlistView) (feeds : List Feed) (gate : Gate) : Type 0 where
  pub cell : CellView
  pub live : cell_at N gate.cell.0 ≡ Some cell
  pub is_of : IsGateOf feeds gate.cell.0 cell gate

-- own: a net of this direction has its value from its driver alone
abbrev pub is_plain : Option Dir → Bool
is_plain (Some Input) = false
is_plain (Some Inout) = false
is_plain (Some Output) = true
is_plain None = true

-- own: the gate is this pair of two nets, and drives a net that has its value from it alone
pub record IsPairOf (library : List ListedCell) (feeds : List Feed) (sides : List (Option Dir)) (gate : Gate) (row : Row) (pair : Pair) : Type 0 where
  pub kind_is : IsPair library gate.kind pair
  pub feeds_are : feeds_in feeds gate ≡ Net row.a ∷ Net row.b ∷ []
  pub output_is : gate.output ≡ Some row.net
  pub plain : is_plain (side_at sides row.net.0) ≡ true

-- own: this is kept of the gate, where a pair is
abbrev pub IsRowOf : List ListedCell → List Feed → List (Option Dir) → Gate → Row → Type 0
IsRowOf library feeds sides gate row = (pair : Pair) → row.pair ≡ Some pair → IsPairOf library feeds sides gate row pair

-- own: what is kept of each gate that is a pair, in its place
pub record AreRows (library : List ListedCell) (feeds : List Feed) (sides : List (Option Dir)) (gates : List Gate) (rows : List Row) : Type 0 where
  pub long : length rows ≡ length gates
  pub each : (place : ℕ) (gate : Gate) (row : Row) → slice_get gates place ≡ Some gate → slice_get rows place ≡ Some row → IsRowOf library feeds sides gate row

-- own: of each net the turn after that of its driver, and 0 where it has none
pub record AreFirsts (N : NetlistView) (turns firsts : List ℕ) : Type 0 where
  pub long : length firsts ≡ length N.nets
  pub driven : (number : ℕ) (cell : CellView) (net : ℕ) → Drives N number cell net → slice_index firsts net ≡ turn_at turns number + 1
  pub undriven : (net : ℕ) → IsUndriven N net → slice_index firsts net ≡ 0

-- own: a cell with this turn waits on the net
pub record HasReader (N : NetlistView) (turns : List ℕ) (net turn : ℕ) : Type 0 where
  pub reader : ℕ
  pub waits : WaitsOn N reader net
  pub there : turn_at turns reader ≡ turn

-- own: a place of the list between the starts of this net and of the next
pub record IsInRange (starts : List ℕ) (net k : ℕ) : Type 0 where
  pub from : slice_index starts net ≤ k
  pub to : k < slice_index starts (net + 1)

-- own: the readers of each net stand in its range, by their turns
pub record AreReaders (N : NetlistView) (turns starts readers : List ℕ) : Type 0 where
  pub long : length starts ≡ length N.nets + 1
  pub within : (net : ℕ) → net < length N.nets → slice_index starts (net + 1) ≤ length readers
  pub rising : (net : ℕ) → net < length N.nets → slice_index starts net ≤ slice_index starts (net + 1)
  pub only : (net k : ℕ) → net < length N.nets → IsInRange starts net k → HasReader N turns net (slice_index readers k)
  pub each : (net turn : ℕ) → HasReader N turns net turn → (k : ℕ) × IsInRange starts net k × (slice_index readers k ≡ turn)

-- own: what events need of a netlist
pub record CircuitView : Type 0 where
  pub lists : NetlistView
  pub sides : List (Option Dir)
  pub firsts : List ℕ
  pub gates : List Gate
  pub feeds : List Feed
  pub rows : List Row
  pub tables : List Sig
  pub turns : List ℕ
  pub starts : List ℕ
  pub readers : List ℕ

-- own: they are those of the netlist
pub record IsCircuit (c : CircuitView) : Type 0 where
  pub formed : IsWellFormed c.lists
  pub laid : IsLaidOut c.lists
  pub sides : AreSides c.lists c.sides
  pub turns : AreTurns c.lists (turn_at c.turns)
  pub gates : (number : ℕ) (cell : CellView) → cell_at c.lists number ≡ Some cell → StandsInPlace c.turns c.gates c.feeds number cell
  pub live : (place : ℕ) (gate : Gate) → slice_get c.gates place ≡ Some gate → IsLiveGate c.lists c.feeds gate
  pub rows : AreRows c.lists.library c.feeds c.sides c.gates c.rows
  pub tables : AreTables c.lists.library c.tables
  pub firsts : AreFirsts c.lists c.turns c.firsts
  pub few : 3 * length c.gates < 2 ^ 32
  pub readers : AreReaders c.lists c.turns c.starts c.readers

-- own: there is a place for each net, for each cell and for each turn
pub record FitsCircuit (c : CircuitView) (values state : List Sig) (drives : List PinSig) (words : List ℕ) : Type 0 where
  pub for_drives : length drives ≡ length c.lists.nets
  pub for_values : length values ≡ length c.lists.nets
  pub for_state : (number : ℕ) (cell : CellView) → cell_at c.lists number ≡ Some cell → number < length state
  pub for_queue : 3 * length c.gates ≤ 64 * length words

-- own: an event, from the lists before it
abbrev pub event_from : List PinSig → List Sig → List Sig → Event
event_from pins before old = record { pins = pin_at pins; before = value_at before; old = value_at old }

-- own: how far the event is, from this turn on
pub record IsUnderWay (c : CircuitView) (e : Event) (values state : List Sig) (drives : List PinSig) (words : List ℕ) (from steps : ℕ) : Type 0 where
  pub pending : IsPending c.lists (turn_at c.turns) e (value_at values) (value_at state) (pin_at drives) (bit_of words) from
  pub counted : IsCounted c.lists (turn_at c.turns) e.before (value_at values) from steps
  pub fits : FitsCircuit c values state drives words

-- own: what waits on a net is queued, beside what was
pub record Wakes (c : CircuitView) (net : ℕ) (old new : List ℕ) : Type 0 where
  pub long : length new ≡ length old
  pub each : (turn : ℕ) → IsIn new turn ↔ (IsIn old turn ⊎ HasReader c.lists c.turns net turn)

-- own: what waits on a net is queued where its value changed
pub record WakesIf (c : CircuitView) (net : ℕ) (before after : Sig) (old new : List ℕ) : Type 0 where
  pub long : length new ≡ length old
  pub each : (turn : ℕ) → IsIn new turn ↔ (IsIn old turn ⊎ ((after ≢ before) × HasReader c.lists c.turns net turn))

-- own: a net takes a value
pub record TakesValue (c : CircuitView) (net : ℕ) (given : Sig) (values values' : List Sig) (words words' : List ℕ) : Type 0 where
  pub sets : Sets net given values values'
  pub wakes : WakesIf c net (value_at values net) given words words'

-- own: the turn of a cell, and what it queues
pub record HasTurn (c : CircuitView) (e : Event) (number : ℕ) (cell : CellView) (values state values' state' : List Sig) (drives drives' : List PinSig) (words words' : List ℕ) (steps steps' : ℕ) : Type 0 where
  pub long_drives : length drives' ≡ length drives
  pub taken : TakesTurn c.lists e number cell (value_at values) (value_at state) (pin_at drives) (value_at values') (value_at state') (pin_at drives')
  pub woken : (turn : ℕ) → IsIn words' turn ↔ (IsIn words turn ⊎ IsWoken c.lists (turn_at c.turns) cell (value_at values) (value_at values') turn)
  pub long_values : length values' ≡ length values
  pub long_state : length state' ≡ length state
  pub long_words : length words' ≡ length words
  pub counted : steps' ≤ steps + steps_of c.lists.library cell.kind

-- own: the same, of the tables
abbrev pub IsGateIn : CircuitView → Gate → Type 0
IsGateIn c gate = IsLiveGate c.lists c.feeds gate

-- own: nothing is queued any more, and there were at most as many steps as gates have an operand on a net that changed
pub record HasRun (c : CircuitView) (e : Event) (values state : List Sig) (drives : List PinSig) (words : List ℕ) (steps steps' : ℕ) : Type 0 where
  pub from : ℕ
  pub pending : IsPending c.lists (turn_at c.turns) e (value_at values) (value_at state) (pin_at drives) (bit_of words) from
  pub empty : (turn : ℕ) → IsIn words turn → ⊥
  pub few : steps' ≤ steps + touched_count c.lists e.before (value_at values)
  pub fits : FitsCircuit c values state drives words
