-- An event from rest to rest.
use Rattle.std.proofs.Common.{◌≡◌, ℕ, ◌<◌, List, length, set, slice_index, Option, inl, inr, refl, sym, ap, ◌∙◌, arith}
use Rattle.std.proofs.lemmas.Bool.Decides.{eqb_tells}
use Rattle.signal_values.specs.declared.Sig.{Sig}
use Rattle.signal_values.specs.declared.PinSig.{PinSig}
use Rattle.signal_values.specs.declared.Sig.TheVariants.{Unknown}
use Rattle.signal_values.specs.Values.{see, join}
use Rattle.netlist_model.specs.Lists.{CellView, NetlistView, direction, Drives}
use Rattle.netlist_model.specs.Formed.{IsWellFormed}
use Rattle.netlist_model.specs.Settled.{feed_values, pin_rule, pin_value, drive_by, driver_of}
use Rattle.netlist_model.specs.Runs.{PinEvent, pins_after, IsLegal}
use Rattle.netlist_model.proofs.Pins.{pin_kinds, cell_drive-three_state}
use Rattle.netlist_model.proofs.Search.{search_driver, driver_of-driven}
use Rattle.netlist_settling.specs.Values.{value_at, pin_at}
use Rattle.netlist_settling.proofs.Steps.{pins_set}
use Rattle.event_parts.specs.QueuesLaws.{IsIn, bit_of}
use Rattle.event_laws.specs.Work.{IsAtRest, IsFrontier}
use Rattle.event_laws.specs.Laws.{IsStepped}
use Rattle.event_laws.proofs.Ends.{event_queues, event_steps}
use Rattle.event_laws.proofs.TurnCounts.{count_begins}
use Rattle.event_turns.specs.Circuits.{CircuitView, IsCircuit, FitsCircuit, TakesValue, IsUnderWay, HasRun, turn_at, event_from}

-- an event that is under way
pub begun : (c : CircuitView) (event : PinEvent) (pins drives : List PinSig) (values values' state : List Sig) (words words' : List ℕ) (given : Sig) (first : ℕ) → IsCircuit c
    → IsLegal c.lists event → event.net < length pins → given ≡ pin_rule c.lists (pins_after (pin_at pins) event) (value_at values) event.net
    → IsAtRest c.lists (pin_at pins) (value_at values) (value_at state) (pin_at drives) → FitsCircuit c values state drives words → ((turn : ℕ) → IsIn words turn → ⊥)
    → IsFrontier c.lists (turn_at c.turns) event.net first → TakesValue c event.net given values values' words words'
    → IsUnderWay c (event_from (set pins event.net event.value) values state) values' state drives words' first 0
begun c event pins drives values values' state words words' given first is legal below gives rest fits empty frontier taken = record {
  pending = event_queues c.lists (turn_at c.turns) event (pin_at pins) (pin_at (set pins event.net event.value)) (value_at values) (value_at values') (value_at state) (pin_at drives) (bit_of words') first is.formed is.turns legal rest
      (record {
        pinned = pinned;
        given = taken.sets.same ∙ gives ∙ ap (λ (p : PinSig). pin_value (direction c.lists.ports event.net) (drive_by (driver_of c.lists.cells event.net) (value_at values) event.net) p) (sym (pinned event.net));
        others = taken.sets.others;
      })
      (λ t. (
        λ now. elim ((taken.wakes.each t).0 now) [
          | inl was ↦ absurd (empty t was)
          | inr w ↦ record { reader = w.1.reader; changed = λ same. w.0 (sym taken.sets.same ∙ same); waits = w.1.waits; there = w.1.there }
        ],
        λ f. (taken.wakes.each t).1 (inr ((λ same. f.changed (taken.sets.same ∙ same)), record { reader = f.reader; waits = f.waits; there = f.there })),
      ))
      frontier;
  counted = count_begins c.lists (turn_at c.turns) (value_at values) (value_at values') first;
  fits = record {
    for_values = taken.sets.long ∙ fits.for_values;
    for_drives = fits.for_drives;
    for_state = fits.for_state;
    for_queue = (let room = fits.for_queue in let l = taken.wakes.long in omega arith);
  };
}
  where
    pinned : (net : ℕ) → pin_at (set pins event.net event.value) net ≡ pins_after (pin_at pins) event net
    pinned = pins_set pins event.net event.value below

-- an event that has ended
pub stepped : (c : CircuitView) (event : PinEvent) (pins drives : List PinSig) (values values' state state' : List Sig) (words : List ℕ) (steps steps' : ℕ) → IsCircuit c → IsLegal c.lists event → event.net < length pins
    → HasRun c (event_from (set pins event.net event.value) values state) values' state' drives words steps steps'
    → IsStepped c.lists event (pin_at pins) (pin_at (set pins event.net event.value)) (value_at values) (value_at state) (value_at values') (value_at state') (pin_at drives)
stepped c event pins drives values values' state state' words steps steps' is legal below ran =
    event_steps c.lists (turn_at c.turns) event (pin_at pins) (pin_at (set pins event.net event.value)) (value_at values) (value_at state) (value_at values') (value_at state') (pin_at drives) (bit_of words) ran.from is.formed legal
    (pins_set pins event.net event.value below) ran.empty ran.pending

-- what the net of an event sees, from what is kept of its driver
pub given_is : (N : NetlistView) (event : PinEvent) (pins drives : List PinSig) (values state : List Sig) → IsWellFormed N → IsLegal N event → IsAtRest N (pin_at pins) (value_at values) (value_at state) (pin_at drives)
    → pin_value (direction N.ports event.net) (pin_at drives event.net) event.value ≡ pin_rule N (pins_after (pin_at pins) event) (value_at values) event.net
given_is N event pins drives values state formed legal rest =
    elim (pin_kinds (direction N.ports event.net) legal.taken) [
      | inl is ↦ rw is (ap see (sym own_pin))
      | inr is ↦ (let d = formed.inouts_driven event.net is in
          let three = formed.inout_bufif d.number d.cell event.net d.drives is in
          let shown = (rest.done d.number d.cell d.drives.live).shows event.net d.drives.output three in
          let drive : drive_by (driver_of N.cells event.net) (value_at values) event.net ≡ pin_at drives event.net
          = ap (λ (o : Option CellView). drive_by o (value_at values) event.net) (driver_of-driven N d.number d.cell event.net formed.one_driver d.drives)
          ∙ cell_drive-three_state d.cell.kind (feed_values (value_at values) d.cell.feeds) (value_at values event.net) Unknown three ∙ sym shown in
          rw is (ap (λ (p : PinSig). see (join p event.value)) (sym drive) ∙ ap (λ (p : PinSig). see (join (drive_by (driver_of N.cells event.net) (value_at values) event.net) p)) (sym own_pin)))
    ]
  where
    own_pin : pins_after (pin_at pins) event event.net ≡ event.value
    own_pin = elim (eqb_tells event.net event.net) [
      | inl same ↦ rw same.0 refl
      | inr apart ↦ absurd (apart.1 refl)
    ]

-- the turns to come of an event are those past the driver of its net
pub frontier_is : (c : CircuitView) (net : ℕ) → IsCircuit c → IsFrontier c.lists (turn_at c.turns) net (slice_index c.firsts net)
frontier_is c net is = record {
  driver = λ number cell drives. (let first = is.firsts.driven number cell net drives in omega arith);
  readers = λ reader waits. elim (search_driver c.lists.cells net) [
    | inl f ↦ (let drives : Drives c.lists f.number f.cell net = record { live = f.live; output = f.output } in
        let first = is.firsts.driven f.number f.cell net drives in
        let after = is.turns.after reader f.number net f.cell waits drives in omega arith)
    | inr none ↦ (let first = is.firsts.undriven net none in omega arith)
  ];
}
