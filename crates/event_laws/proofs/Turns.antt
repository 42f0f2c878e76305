-- A turn leaves only what waits on what it changed.
use Rattle.std.proofs.Common.{◌≡◌, ◌≢◌, ◌⊎◌, ◌↔◌, ℕ, ◌+◌, ◌<◌, ◌≤◌, Some, refl, sym, ap, ◌∙◌, inl, inr, arith}
use Rattle.std.proofs.lemmas.Bool.{cases_eq}
use Rattle.signal_values.specs.declared.Sig.{Sig}
use Rattle.signal_values.specs.declared.PinSig.{PinSig}
use Rattle.netlist_model.specs.Lists.{CellView, NetlistView, cell_at, direction, Drives}
use Rattle.netlist_model.specs.Settled.{feed_values}
use Rattle.netlist_model.proofs.Search.{cell_at_once}
use Rattle.netlist_settling.specs.Passes.{driven_value}
use Rattle.event_laws.specs.Work.{Event, IsDone, IsWaiting, TakesTurn}
use Rattle.event_laws.specs.Laws.{TurnKeeps}
use Rattle.event_laws.proofs.Inputs.{SameWaited, sig_cases, next_same, driven_same, drive_same, output_cases, waits_elsewhere}

-- a cell that agrees still does where what it waits on stays
pub still_done : (N : NetlistView) (e : Event) (value state value' state' : ℕ → Sig) (drive drive' : ℕ → PinSig) (number : ℕ) (cell : CellView) → cell_at N number ≡ Some cell → state' number ≡ state number
    → SameWaited N number value value' → ((net : ℕ) → cell.output ≡ Some (record { 0 = net }) → value' net ≡ value net) → ((net : ℕ) → cell.output ≡ Some (record { 0 = net }) → drive' net ≡ drive net)
    → IsDone N e value state drive number cell → IsDone N e value' state' drive' number cell
still_done N e value state value' state' drive drive' number cell live kept waited same shown done = record {
  shows = λ net out three. shown net out ∙ done.shows net out three ∙ drive_same N number cell value value' live three waited;
  keeps = kept ∙ done.keeps ∙ next_same N number cell (feed_values e.before cell.feeds) value value' (e.old number) live waited;
  gives = λ net out. same net out ∙ done.gives net out
      ∙ driven_same N number cell (direction N.ports net) value value' (state number) (e.pins net) live waited
      ∙ ap (λ (s : Sig). driven_value N.library (direction N.ports net) cell.kind (feed_values value' cell.feeds) s (e.pins net)) (sym kept);
}

-- the cell whose turn it was agrees
pub turn_done : (N : NetlistView) (e : Event) (value state value' state' : ℕ → Sig) (drive drive' : ℕ → PinSig) (number : ℕ) (cell : CellView) → cell_at N number ≡ Some cell → SameWaited N number value value'
    → TakesTurn N e number cell value state drive value' state' drive' → IsDone N e value' state' drive' number cell
turn_done N e value state value' state' drive drive' number cell live waited taken = record {
  shows = λ net out three. taken.shows net out three ∙ drive_same N number cell value value' live three waited;
  keeps = taken.keeps ∙ next_same N number cell (feed_values e.before cell.feeds) value value' (e.old number) live waited;
  gives = λ net out. taken.gives net out ∙ driven_same N number cell (direction N.ports net) value value' (state' number) (e.pins net) live waited;
}

pub turn_keeps : TurnKeeps
turn_keeps N turn e value state value' state' drive drive' queued queued' from number cell formed turns live at_turn least taken requeued pending = record {
  done = λ other found there not_queued.
      elim (cases_eq other number) [
        | inl same ↦ (let cells : found ≡ cell = cell_at_once N other number found cell same there live in
            rw (same, cells) (turn_done N e value state value' state' drive drive' number cell live own_inputs taken))
        | inr apart ↦ still_done N e value state value' state' drive drive' other found there (taken.states other apart)
            (other_inputs other not_queued)
            (λ net out. taken.others net (not_its other found net apart there out))
            (λ net out. taken.drives net (not_its other found net apart there out))
            (pending.done other found there (λ q. not_queued ((requeued (turn other)).1 (inl (λ t. apart (turns.apart other number found cell there live t), q)))))
      ];
  free = λ net none. taken.others net (λ out. none number cell live out) ∙ pending.free net none;
  later = λ other found net drives late.
      let apart : other ≢ number = λ same. (let t : turn other ≡ turn number = ap turn same in omega arith) in
      taken.others net (not_its other found net apart drives.live drives.output) ∙ pending.later other found net drives (omega (arith, here));
  kept = λ other found there late.
      let apart : other ≢ number = λ same. (let t : turn other ≡ turn number = ap turn same in omega arith) in
      taken.states other apart ∙ pending.kept other found there (omega (arith, here));
  queue = λ t q. elim ((requeued t).0 q) [
    | inl old ↦ was_waiting t old.0 (pending.queue t old.1) (least t old.1)
    | inr new ↦ record {
      number = new.reader;
      net = new.net;
      waits = new.waits;
      changed = λ back. new.changed (back ∙ sym (own_before new.net new.output));
      there = new.there;
      later = (let d : Drives N number cell new.net = record { live = live; output = new.output } in
          let after = turns.after new.reader number new.net cell new.waits d in let t = new.there in omega arith);
    }
  ];
}
  where
    here : from ≤ turn number
    here = (pending.queue (turn number) at_turn).later

    own_before : (net : ℕ) → cell.output ≡ Some (record { 0 = net }) → value net ≡ e.before net
    own_before net out = pending.later number cell net (record { live = live; output = out }) here

    not_its : (other : ℕ) (found : CellView) (net : ℕ) → other ≢ number → cell_at N other ≡ Some found → found.output ≡ Some (record { 0 = net }) → cell.output ≢ Some (record { 0 = net })
    not_its other found net apart there out own =
        apart (formed.one_driver other number found cell net (record { live = there; output = out }) (record { live = live; output = own }))

    own_inputs : SameWaited N number value value'
    own_inputs net waits =
        elim (output_cases cell.output net) [
          | inl out ↦ absurd (waits_elsewhere N turn number net cell turns (record { live = live; output = out }) waits)
          | inr not ↦ sym (taken.others net not)
        ]

    other_inputs : (other : ℕ) → (queued' (turn other) ≡ 1 → ⊥) → SameWaited N other value value'
    other_inputs other not_queued net waits =
        elim (output_cases cell.output net) [
          | inl out ↦ elim (sig_cases (value' net) (value net)) [
            | inl same ↦ sym same
            | inr changed ↦ absurd (not_queued ((requeued (turn other)).1 (inr (record { net = net; reader = other; output = out; changed = changed; waits = waits; there = refl }))))
          ]
          | inr not ↦ sym (taken.others net not)
        ]

    was_waiting : (t : ℕ) → t ≢ turn number → IsWaiting N turn e value from t → turn number ≤ t → IsWaiting N turn e value' (turn number + 1) t
    was_waiting t apart w upto = record {
      number = w.number;
      net = w.net;
      waits = w.waits;
      changed = elim (output_cases cell.output w.net) [
        | inl out ↦ absurd (w.changed (own_before w.net out))
        | inr not ↦ (λ back. w.changed (sym (taken.others w.net not) ∙ back))
      ];
      there = w.there;
      later = omega arith;
    }
