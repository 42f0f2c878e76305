-- The tables of a netlist, while they are made.
use Rattle.std.specs.Prelude.{◌≡◌, ℕ, ◌+◌, ◌*◌, ◌<◌, ◌⊎◌, ◌==◌, Bool, false, not, ◌||◌, List, length, slice_get, slice_set, slice_index, slice_index_or, Option, Some, None, if◌then◌else◌, ⊤}
use Rattle.cell_library.specs.declared.listed.ListedCell.{ListedCell}
use Rattle.cell_library.specs.Gates.{is_flop}
use Rattle.netlist_model.specs.declared.CellId.{CellId}
use Rattle.netlist_model.specs.declared.NetId.{NetId}
use Rattle.netlist_model.specs.declared.Feed.{Feed}
use Rattle.netlist_model.specs.declared.Feed.TheVariants.{Net, Const}
use Rattle.netlist_model.specs.Lists.{CellView, NetlistView, cell_at}
use Rattle.netlist_model.specs.Orders.{StandsAt}
use Rattle.event_laws.specs.Turns.{WaitsOn}
use Rattle.event_laws.specs.OrderLaws.{has_late, AreLate, AreTurnsOf}
use Rattle.event_parts.specs.KeysLaws.{IsKey}
use Rattle.event_turns.specs.declared.circuit.Gate.{Gate}
use Rattle.event_turns.specs.Circuits.{AreFirsts, HasReader, IsGateOf, feeds_in, turn_at}

-- Cells in their places.

-- own: what is kept of a cell, whose operands stand from this place on
abbrev pub gate_of : CellId → ℕ → CellView → Gate
gate_of id first cell = record { cell = id; kind = cell.kind; first = first; count = length cell.feeds; output = cell.output }

-- own: what is kept of the cell in this place
pub record HasGate (gates : List Gate) (feeds : List Feed) (place number : ℕ) (cell : CellView) : Type 0 where
  pub gate : Gate
  pub there : slice_get gates place ≡ Some gate
  pub is_of : IsGateOf feeds number cell gate

-- own: the first so many cells of the order stand in their places
pub record AreGates (N : NetlistView) (order : List CellId) (count : ℕ) (gates : List Gate) (feeds : List Feed) : Type 0 where
  pub long : length gates ≡ count
  pub each : (place number : ℕ) (cell : CellView) → place < count → StandsAt order place number → cell_at N number ≡ Some cell → HasGate gates feeds place number cell

-- Turns.

-- own: whether the table has the net as late; none past the end is
abbrev pub late_at : List Bool → ℕ → Bool
late_at late net = slice_index_or late net false

-- own: the operand is a late net
abbrev pub feed_late : (ℕ → Bool) → Feed → Bool
feed_late late (Net net) = late net.0
feed_late late (Const b) = false

-- own: 1 of a flip-flop, 2 of a gate with a late operand, 0 of any other
abbrev pub class_by : Bool → Bool → ℕ
class_by flop behind = if flop then 1 else if behind then 2 else 0

-- own: some operand of the gate is a late net
abbrev pub gate_behind : List Feed → (ℕ → Bool) → Gate → Bool
gate_behind feeds late gate = has_late late (feeds_in feeds gate)

-- own: the turn of a gate in this place, of so many
abbrev pub gate_turn : List ListedCell → List Feed → (ℕ → Bool) → Gate → ℕ → ℕ → ℕ
gate_turn library feeds late gate place count = class_by (is_flop library gate.kind) (gate_behind feeds late gate) * count + place

-- own: what the gate drives is late
abbrev pub gate_late : List ListedCell → List Feed → (ℕ → Bool) → Gate → Bool
gate_late library feeds late gate = is_flop library gate.kind || gate_behind feeds late gate

-- own: the net of an output, if there is one, is below this number
abbrev pub IsBelow : ℕ → Option NetId → Type 0
IsBelow count None = ⊤
IsBelow count (Some net) = net.0 < count

-- own: a table where the net of an output, if there is one, has this
abbrev pub with_net : {X : Type 0} → Option NetId → X → List X → List X
with_net None x xs = xs
with_net (Some net) x xs = slice_set xs net.0 x

-- own: the turns of all cells, and of each net the turn after
pub record AreTurned (N : NetlistView) (order : List CellId) (turns firsts : List ℕ) : Type 0 where
  pub late : ℕ → Bool
  pub late_is : AreLate N late
  pub turns_are : AreTurnsOf N order late (turn_at turns)
  pub firsts_are : AreFirsts N turns firsts
  pub long : (number : ℕ) (cell : CellView) → cell_at N number ≡ Some cell → number < length turns

-- What waits.

-- own: the net on which a cell waits by an operand, if it is a net: a flip-flop by its clock and its
-- clear or preset alone
abbrev pub waited : Bool → ℕ → Feed → Option ℕ
waited flop operand (Net net) = if not flop || (operand == 1 || operand == 2) then Some net.0 else None
waited flop operand (Const b) = None

-- own: a place at which the net stands with this turn
pub record HasKey (keys : List (Option ℕ)) (owners : List ℕ) (net turn : ℕ) : Type 0 where
  pub place : ℕ
  pub is : IsKey keys place net
  pub owner : slice_index owners place ≡ turn

-- own: the operand of a cell of the order was noted: those of the first so many cells, and the first so
-- many of the next
abbrev pub IsNoted : ℕ → ℕ → ℕ → ℕ → Type 0
IsNoted count upto place operand = (place < count) ⊎ ((place ≡ count) × (operand < upto))

-- own: what these operands wait on, and the turns of their cells
pub record AreWaits (N : NetlistView) (order : List CellId) (turns : List ℕ) (keys : List (Option ℕ)) (owners : List ℕ) (count upto : ℕ) : Type 0 where
  pub long : length owners ≡ length keys
  pub sound : (k net : ℕ) → IsKey keys k net → HasReader N turns net (slice_index owners k)
  pub full : (number net place : ℕ) (waits : WaitsOn N number net) → StandsAt order place number → IsNoted count upto place waits.place → HasKey keys owners net (turn_at turns number)

-- own: the owners of these places
pub record AreOwnersAt (places owners readers : List ℕ) : Type 0 where
  pub long : length readers ≡ length places
  pub each : (k : ℕ) → k < length places → slice_index readers k ≡ slice_index owners (slice_index places k)
