-- An event from rest to rest.
use Rattle.std.specs.Prelude.{◌≡◌, ℕ, ◌+◌, ◌*◌, ◌≤◌, List, length}
use Rattle.signal_values.specs.declared.Sig.{Sig}
use Rattle.signal_values.specs.declared.PinSig.{PinSig}
use Rattle.netlist_model.specs.Lists.{NetlistView}
use Rattle.netlist_model.specs.Runs.{IsStep, Moment, PinEvent}
use Rattle.netlist_settling.specs.Values.{value_at, pin_at}
use Rattle.event_parts.specs.QueuesLaws.{IsIn}
use Rattle.event_laws.specs.Work.{IsAtRest}
use Rattle.event_laws.specs.Counts.{touched_count}
use Rattle.event_turns.specs.Circuits.{CircuitView, FitsCircuit}

-- own: the moment that these lists hold
abbrev pub moment_at : List PinSig → List Sig → List Sig → Moment
moment_at pins values state = record { pins = pin_at pins; state = value_at state; value = value_at values }

-- own: all nets are at rest, no turn is queued, and there is a place for each net, each cell and each turn
pub record AwaitsEvent (c : CircuitView) (pins : List PinSig) (values state : List Sig) (drives : List PinSig) (queue log : List ℕ) : Type 0 where
  pub for_pins : length pins ≡ length c.lists.nets
  pub for_log : length c.lists.nets ≤ 64 * length log
  pub fits : FitsCircuit c values state drives queue
  pub rest : IsAtRest c.lists (pin_at pins) (value_at values) (value_at state) (pin_at drives)
  pub empty : (turn : ℕ) → IsIn queue turn → ⊥

-- own: a step by an event, with at most as many evaluations as gates have an operand on a net that changed
pub record StepsBy (N : NetlistView) (event : PinEvent) (pins pins' : List PinSig) (values values' state state' : List Sig) (steps steps' : ℕ) : Type 0 where
  pub step : IsStep N event (moment_at pins values state) (moment_at pins' values' state')
  pub few : steps' ≤ steps + touched_count N (value_at values) (value_at values')
  pub long_pins : length pins' ≡ length pins
  pub long_state : length state' ≡ length state
