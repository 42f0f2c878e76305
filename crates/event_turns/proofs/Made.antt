-- The tables together are those of the netlist.
use Rattle.std.proofs.Common.{◌≡◌, ℕ, ◌+◌, ◌*◌, ◌<◌, ◌≤◌, ◌^◌, nat_lt, true, false, List, length, Option, Some, refl, ap, ◌∙◌, inl, inr, arith}
use Rattle.std.specs.Prelude.{slice_get}
use Rattle.std.proofs.lemmas.Option.{slice_get_within}
use Rattle.list_laws.proofs.Lists.{slice_get_there}
use Rattle.list_laws.proofs.Options.{some_same, some_there}
use Rattle.signal_values.specs.declared.Sig.{Sig}
use Rattle.event_parts.specs.Pairs.{AreTables}
use Rattle.netlist_model.specs.declared.CellId.{CellId}
use Rattle.netlist_model.specs.declared.Dir.{Dir}
use Rattle.netlist_model.specs.declared.Feed.{Feed}
use Rattle.netlist_model.specs.Lists.{CellView, NetlistView, cell_at}
use Rattle.netlist_model.specs.Formed.{IsLaidOut, IsWellFormed}
use Rattle.netlist_model.specs.Orders.{StandsAt, IsCellOrder}
use Rattle.netlist_settling.specs.Values.{AreSides}
use Rattle.event_laws.specs.OrderLaws.{class_of}
use Rattle.event_laws.proofs.Rises.{turns_rise, scaled, class_few}
use Rattle.event_turns.specs.declared.circuit.Gate.{Gate}
use Rattle.event_turns.specs.declared.circuit.Row.{Row}
use Rattle.event_turns.specs.Circuits.{AreReaders, AreRows, IsCircuit, IsLiveGate, StandsInPlace, place_of, turn_at}
use Rattle.event_turns.specs.Tables.{AreGates, AreTurned}

-- the place of a turn
first_class : (n p t : ℕ) → t ≡ p → p < n → place_of n t ≡ p
first_class n p t is below =
    let lt : nat_lt t n ≡ true = grind arith in
    rw lt is

second_class : (n p t : ℕ) → t ≡ n + p → p < n → place_of n t ≡ p
second_class n p t is below =
    let past : nat_lt t n ≡ false = grind arith in
    let lt : nat_lt t (2 * n) ≡ true = grind arith in
    rw (past, lt) (omega arith)

third_class : (n p t : ℕ) → t ≡ n + n + p → p < n → place_of n t ≡ p
third_class n p t is below =
    let past : nat_lt t n ≡ false = grind arith in
    let after : nat_lt t (2 * n) ≡ false = grind arith in
    rw (past, after) (omega arith)

-- a turn is below three times the count, and tells its place
record IsTurnOf (n p t : ℕ) : Type 0 where
  place : place_of n t ≡ p
  early : t < 3 * n

turn_place : (class n p t : ℕ) → class ≤ 2 → p < n → t ≡ class * n + p → IsTurnOf n p t
turn_place class n p t few below is =
    elim (scaled class n few) [
      | inl a ↦ (let e = a.1 in record { place = first_class n p t (omega arith) below; early = omega arith })
      | inr r ↦ elim r [
        | inl a ↦ (let e = a.1 in record { place = second_class n p t (omega arith) below; early = omega arith })
        | inr a ↦ (let e = a.1 in record { place = third_class n p t (omega arith) below; early = omega arith })
      ]
    ]

-- what is kept in a place is kept of a live cell
pub live_gate : (N : NetlistView) (order : List CellId) (gates : List Gate) (feeds : List Feed) → IsCellOrder N order → AreGates N order (length order) gates feeds
    → (place : ℕ) (gate : Gate) → slice_get gates place ≡ Some gate → IsLiveGate N feeds gate
live_gate N order gates feeds ordered placed place gate at =
    let within = slice_get_within gates place gate at in
    let below : place < length order = (let long = placed.long in omega arith) in
    let id = slice_get_there order place below in
    let cell = some_there (cell_at N id.0.0) (ordered.only place id.0.0 id.1) in
    let has = placed.each place id.0.0 cell.0 below id.1 cell.1 in
    let same : has.gate ≡ gate = some_same has.gate gate _ has.there at in
    let own : IsLiveGate N feeds has.gate = record {
      cell = cell.0;
      live = ap (cell_at N) has.is_of.number_is ∙ cell.1;
      is_of = record { number_is = refl; kind_is = has.is_of.kind_is; output_is = has.is_of.output_is; few = has.is_of.few; room = has.is_of.room; feeds_are = has.is_of.feeds_are };
    } in
    rw same at own

pub is_circuit : (N : NetlistView) (order : List CellId) (sides : List (Option Dir)) (firsts : List ℕ) (gates : List Gate) (feeds : List Feed) (rows : List Row) (tables : List Sig) (turns starts readers : List ℕ) → IsWellFormed N → IsLaidOut N → IsCellOrder N order
    → AreSides N sides → length order < 2 ^ 30 → AreGates N order (length order) gates feeds → AreRows N.library feeds sides gates rows → AreTables N.library tables → AreTurned N order turns firsts → AreReaders N turns starts readers
    → IsCircuit (record { lists = N; sides = sides; firsts = firsts; gates = gates; feeds = feeds; rows = rows; tables = tables; turns = turns; starts = starts; readers = readers })
is_circuit N order sides firsts gates feeds rows tables turns starts readers formed laid ordered directed few placed paired tabled turned waiting = record {
  formed = formed;
  laid = laid;
  sides = directed;
  turns = turns_rise N order turned.late (turn_at turns) formed ordered turned.late_is turned.turns_are;
  gates = λ number cell live. stands number cell live (ordered.each number (rw live refl));
  live = live_gate N order gates feeds ordered placed;
  rows = paired;
  tables = tabled;
  firsts = turned.firsts_are;
  few = (let long = placed.long in omega arith);
  readers = waiting;
}
  where
    stands : (number : ℕ) (cell : CellView) → cell_at N number ≡ Some cell → (there : (place : ℕ) × StandsAt order place number) → StandsInPlace turns gates feeds number cell
    stands number cell live there =
        let within = slice_get_within order there.0 _ there.1 in
        let has = placed.each there.0 number cell within there.1 live in
        let turn = turned.turns_are.each there.0 number cell there.1 live in
        let of = turn_place (class_of N.library turned.late cell) (length order) there.0 (turn_at turns number) (class_few N.library turned.late cell) within turn in
        record {
          gate = has.gate;
          there = ap (slice_get gates) (ap (λ (n : ℕ). place_of n (turn_at turns number)) placed.long ∙ of.place) ∙ has.there;
          is_of = has.is_of;
          early = (let early = of.early in let long = placed.long in omega arith);
        }
