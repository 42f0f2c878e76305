-- A linked netlist at work, as contracts see it, and what always holds of it.
use Rattle.std.specs.Prelude.{◌≡◌, ℕ, ◌*◌, ◌<◌, ◌≤◌, Bool, List, length, Option, Some}
use Rattle.signal_values.specs.declared.Sig.{Sig}
use Rattle.signal_values.specs.declared.PinSig.{PinSig}
use Rattle.netlist_model.specs.Lists.{NetlistView}
use Rattle.netlist_settling.specs.Values.{value_at, pin_at}
use Rattle.netlist_settling.specs.Tables.{AreControls}
use Rattle.netlist_link.specs.Linked.{LinkedView}
use Rattle.netlist_meaning.specs.States.{cell_bound}
use Rattle.netlist_meaning.specs.Sims.{MomentView}
pub use Rattle.event_parts.specs.QueuesLaws.{IsEmpty, IsIn, Pops}
use Rattle.event_laws.specs.Work.{IsAtRest}
use Rattle.event_turns.specs.Circuits.{CircuitView}
use Rattle.event_turns.specs.Events.{AwaitsEvent}
use Rattle.event_sim.specs.Shown.{ArePlaces, place_at, shown_nets}

-- own: whether it was started, the moment at which it is, and the places of shown bits that may read anew
pub record EventView : Type 0 where
  pub linked : LinkedView
  pub started : Bool
  pub moment : MomentView
  pub changed : List ℕ

-- own: there is room for each place of the table
abbrev pub HasRoom : List (Option ℕ) → List ℕ → Type 0
HasRoom places changed = (net place : ℕ) → place_at places net ≡ Some place → place < 64 * length changed

-- own: the tables are those of the netlist
pub record AreTables (linked : LinkedView) (circuit : CircuitView) (controls : List Bool) (places : List (Option ℕ)) (changed : List ℕ) : Type 0 where
  pub lists_are : circuit.lists ≡ linked.arena.lists
  pub controls_are : AreControls linked.arena.lists controls
  pub places_are : ArePlaces (shown_nets linked.arena.lists) places
  pub room : HasRoom places changed

-- own: there is a place for each net, each cell and each turn
pub record HasPlaces (linked : LinkedView) (circuit : CircuitView) (pins : List PinSig) (before values state : List Sig) (drives : List PinSig) (queue log : List ℕ) : Type 0 where
  pub for_pins : length pins ≡ length linked.arena.lists.nets
  pub for_before : length before ≡ length linked.arena.lists.nets
  pub for_values : length values ≡ length linked.arena.lists.nets
  pub for_state : length state ≡ cell_bound linked.order
  pub for_drives : length drives ≡ length linked.arena.lists.nets
  pub for_queue : 3 * length circuit.gates ≤ 64 * length queue
  pub for_log : length linked.arena.lists.nets ≤ 64 * length log

-- own: between two events all nets are at rest, and what was before is what is
pub record IsResting (N : NetlistView) (pins : List PinSig) (before values state : List Sig) (drives : List PinSig) : Type 0 where
  pub rest : IsAtRest N (pin_at pins) (value_at values) (value_at state) (pin_at drives)
  pub same : before ≡ values

-- own: nothing is queued
abbrev pub IsNone : List ℕ → Type 0
IsNone words = (number : ℕ) → IsIn words number → ⊥

-- own: an event is awaited, what was before is what is, and no net is logged
pub record IsBetweenEvents (c : CircuitView) (pins : List PinSig) (before values state : List Sig) (drives : List PinSig) (queue log : List ℕ) : Type 0 where
  pub awaits : AwaitsEvent c pins values state drives queue log
  pub same : before ≡ values
  pub none : IsNone log
