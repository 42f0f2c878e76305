-- The turns of an event one after another.
use Rattle.std.proofs.Common.{◌≡◌, ℕ, ◌+◌, ◌-◌, ◌*◌, ◌<◌, ◌≤◌, List, length, get_or, Some, inl, inr, refl, sym, ap, ◌∙◌, arith}
use Rattle.std.specs.Prelude.{slice_get}
use Rattle.std.proofs.lemmas.Option.{get_or_from_slice_get}
use Rattle.signal_values.specs.declared.Sig.{Sig}
use Rattle.signal_values.specs.declared.PinSig.{PinSig}
use Rattle.netlist_model.specs.Lists.{CellView, cell_at}
use Rattle.netlist_model.specs.Settled.{feed_values}
use Rattle.netlist_model.specs.LawsRuns.{kind_next}
use Rattle.netlist_settling.specs.Values.{value_at, pin_at}
use Rattle.event_parts.specs.QueuesLaws.{IsIn, bit_of, Pops}
use Rattle.event_laws.specs.Work.{Event, TakesTurn, Requeues}
use Rattle.event_laws.specs.Laws.{steps_of}
use Rattle.event_laws.proofs.Turns.{turn_keeps}
use Rattle.event_laws.proofs.TurnCounts.{turn_counts, count_ends}
use Rattle.event_turns.specs.declared.circuit.Gate.{Gate}
use Rattle.event_turns.specs.Circuits.{CircuitView, IsCircuit, IsGateIn, IsGateOf, IsUnderWay, HasTurn, HasRun, turn_at, place_of}

-- the cell whose turn is queued
pub record Found (c : CircuitView) (turn : ℕ) : Type 0 where
  pub number : ℕ
  pub cell : CellView
  pub gate : Gate
  pub live : cell_at c.lists number ≡ Some cell
  pub there : turn_at c.turns number ≡ turn
  pub at : slice_get c.gates (place_of (length c.gates) turn) ≡ Some gate
  pub is_of : IsGateOf c.feeds number cell gate
  pub early : turn < 3 * length c.gates

pub found : (c : CircuitView) (e : Event) (values state : List Sig) (drives : List PinSig) (words : List ℕ) (from steps turn : ℕ) → IsCircuit c → IsUnderWay c e values state drives words from steps → IsIn words turn → Found c turn
found c e values state drives words from steps turn is under queued =
    let w = under.pending.queue turn queued in
    let s = is.gates w.number w.waits.cell w.waits.reads.live in
    record {
      number = w.number;
      cell = w.waits.cell;
      gate = s.gate;
      live = w.waits.reads.live;
      there = w.there;
      at = ap (λ (t : ℕ). slice_get c.gates (place_of (length c.gates) t)) (sym w.there) ∙ s.there;
      is_of = s.is_of;
      early = (let below = s.early in let th = w.there in omega arith);
    }

-- one turn more
pub one_turn : (c : CircuitView) (e : Event) (values state values' state' : List Sig) (drives drives' : List PinSig) (words mid words' : List ℕ) (from number so_far steps steps' : ℕ) (cell : CellView) → IsCircuit c → cell_at c.lists number ≡ Some cell
    → IsUnderWay c e values state drives words from so_far → Pops (turn_at c.turns number) words mid
    → HasTurn c (record { pins = e.pins; before = e.before; old = value_at state }) number cell values state values' state' drives drives' mid words' steps steps'
    → IsUnderWay c e values' state' drives' words' (turn_at c.turns number + 1) (so_far + steps_of c.lists.library cell.kind)
one_turn c e values state values' state' drives drives' words mid words' from number so_far steps steps' cell is live under popped turned = record {
  pending = turn_keeps c.lists turn e (value_at values) (value_at state) (value_at values') (value_at state') (pin_at drives) (pin_at drives') (bit_of words) (bit_of words') from number cell is.formed is.turns live
      popped.least.set popped.least.least taken requeued under.pending;
  counted = turn_counts c.lists turn e (value_at values) (value_at state) (value_at values') (value_at state') (pin_at drives) (pin_at drives') (bit_of words) from number so_far cell is.formed is.turns live
      popped.least.set taken under.pending under.counted;
  fits = record {
    for_drives = turned.long_drives ∙ under.fits.for_drives;
    for_values = turned.long_values ∙ under.fits.for_values;
    for_state = λ other found there. (let below = under.fits.for_state other found there in let long = turned.long_state in omega arith);
    for_queue = (let room = under.fits.for_queue in let a = turned.long_words in let b = popped.long in omega arith);
  };
}
  where
    turn : ℕ → ℕ
    turn = turn_at c.turns

    kept : value_at state number ≡ e.old number
    kept = under.pending.kept number cell live (under.pending.queue (turn number) popped.least.set).later

    taken : TakesTurn c.lists e number cell (value_at values) (value_at state) (pin_at drives) (value_at values') (value_at state') (pin_at drives')
    taken = record {
      keeps = turned.taken.keeps ∙ ap (λ (s : Sig). kind_next c.lists.library cell.kind (feed_values e.before cell.feeds) (feed_values (value_at values) cell.feeds) s) kept;
      states = turned.taken.states;
      gives = turned.taken.gives;
      others = turned.taken.others;
      shows = turned.taken.shows;
      drives = turned.taken.drives;
    }

    requeued : Requeues c.lists turn number cell (value_at values) (value_at values') (bit_of words) (bit_of words')
    requeued t = (
      λ now. elim ((turned.woken t).0 now) [
        | inl was ↦ inl ((popped.each t).0 was)
        | inr w ↦ inr w
      ],
      λ either. elim either [
        | inl was ↦ (turned.woken t).1 (inl ((popped.each t).1 was))
        | inr w ↦ (turned.woken t).1 (inr w)
      ],
    )

-- fewer steps are counted too
pub fewer : (c : CircuitView) (e : Event) (values state : List Sig) (drives : List PinSig) (words : List ℕ) (from steps few : ℕ) → few ≤ steps → IsUnderWay c e values state drives words from steps → IsUnderWay c e values state drives words from few
fewer c e values state drives words from steps few less under = record {
  pending = under.pending;
  counted = (let counted = under.counted in omega arith);
  fits = under.fits;
}

-- nothing is queued any more
pub run_ends : (c : CircuitView) (e : Event) (values state : List Sig) (drives : List PinSig) (words after : List ℕ) (from steps steps' : ℕ) → IsUnderWay c e values state drives words from (steps' - steps) → length after ≡ length words
    → ((turn : ℕ) → IsIn after turn → ⊥) → ((turn : ℕ) → IsIn words turn → ⊥) → HasRun c e values state drives after steps steps'
run_ends c e values state drives words after from steps steps' under long empty none = record {
  from = from;
  pending = record {
    done = λ number cell live _. under.pending.done number cell live (none (turn_at c.turns number));
    free = under.pending.free;
    later = under.pending.later;
    kept = under.pending.kept;
    queue = λ t q. absurd (empty t q);
  };
  empty = empty;
  few = (let counted = count_ends c.lists (turn_at c.turns) e.before (value_at values) from (steps' - steps) under.counted in omega arith);
  fits = record {
    for_drives = under.fits.for_drives;
    for_values = under.fits.for_values;
    for_state = under.fits.for_state;
    for_queue = (let room = under.fits.for_queue in let l = long in omega arith);
  };
}

-- past the last turn nothing is queued
pub past_all : (c : CircuitView) (e : Event) (values state : List Sig) (drives : List PinSig) (words : List ℕ) (from steps : ℕ) → IsCircuit c → IsUnderWay c e values state drives words from steps → 3 * length c.gates ≤ from
    → (turn : ℕ) → IsIn words turn → ⊥
past_all c e values state drives words from steps is under past turn queued =
    (let f = found c e values state drives words from steps turn is under queued in
    let early = f.early in let later = (under.pending.queue turn queued).later in omega arith)

-- the gate that was looked up is one of the tables
pub gate_in : (c : CircuitView) (turn : ℕ) (f : Found c turn) (gate : Gate) → gate ≡ f.gate → IsGateIn c gate
gate_in c turn f gate e = rw e (record {
  cell = f.cell;
  live = ap (λ (k : ℕ). cell_at c.lists k) f.is_of.number_is ∙ f.live;
  is_of = record { number_is = refl; kind_is = f.is_of.kind_is; output_is = f.is_of.output_is; few = f.is_of.few; room = f.is_of.room; feeds_are = f.is_of.feeds_are };
})

pub gate_found : (c : CircuitView) (turn place : ℕ) (f : Found c turn) (gate : Gate) → place ≡ place_of (length c.gates) turn → gate ≡ get_or c.gates place gate → gate ≡ f.gate
gate_found c turn place f gate e at = at ∙ get_or_from_slice_get c.gates place f.gate gate (ap (λ (p : ℕ). slice_get c.gates p) e ∙ f.at)

-- the turn of a gate that was looked up
pub turn_passed : (c : CircuitView) (e : Event) (values state values' state' : List Sig) (drives drives' : List PinSig) (words mid words' : List ℕ) (from first steps steps' turn : ℕ) (f : Found c turn) (gate : Gate) → IsCircuit c → gate ≡ f.gate
    → IsUnderWay c e values state drives words from (steps - first) → Pops turn words mid
    → ((cell : CellView) → cell_at c.lists gate.cell.0 ≡ Some cell → HasTurn c (record { pins = e.pins; before = e.before; old = value_at state }) gate.cell.0 cell values state values' state' drives drives' mid words' steps steps')
    → IsUnderWay c e values' state' drives' words' (turn + 1) (steps' - first)
turn_passed c e values state values' state' drives drives' words mid words' from first steps steps' turn f gate is same under popped turned =
    let number : gate.cell.0 ≡ f.number = ap (λ (h : Gate). h.cell.0) same ∙ f.is_of.number_is in
    let live : cell_at c.lists gate.cell.0 ≡ Some f.cell = ap (λ (k : ℕ). cell_at c.lists k) number ∙ f.live in
    let there : turn_at c.turns gate.cell.0 ≡ turn = ap (turn_at c.turns) number ∙ f.there in
    let has = turned f.cell live in
    let pops : Pops (turn_at c.turns gate.cell.0) words mid = rw there popped in
    let next = one_turn c e values state values' state' drives drives' words mid words' from gate.cell.0 (steps - first) steps steps' f.cell is live under pops has in
    rw there at (fewer c e values' state' drives' words' _ _ (steps' - first) (let few = has.counted in omega arith) next)

pub not_before : (c : CircuitView) (e : Event) (values state : List Sig) (drives : List PinSig) (words : List ℕ) (from steps turn : ℕ) → IsUnderWay c e values state drives words from steps → IsIn words turn → from ≤ turn
not_before c e values state drives words from steps turn under queued = (under.pending.queue turn queued).later
