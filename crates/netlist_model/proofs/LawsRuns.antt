-- A start and a list of legal events have exactly one run.
use Rattle.std.proofs.Common.{◌≡◌, ℕ, zero, suc, List, [], ◌∷◌, Option, All, refl, sym, ◌∙◌, inl, inr, arith}
use Rattle.std.specs.Prelude.{Some, None, slice_get}
use Rattle.std.proofs.lemmas.List.Elements.{All-head, All-tail}
use Rattle.std.proofs.lemmas.Bool.Decides.{eqb_tells}
use Rattle.cell_library.specs.signal_values.declared.Sig.{Sig}
use Rattle.cell_library.specs.signal_values.declared.PinSig.{PinSig}
use Rattle.cell_library.specs.declared.FlopKind.{FlopKind}
use Rattle.cell_library.specs.Gates.{flop_of}
use Rattle.cell_library.specs.Flops.{flop_next, flop_start}
use Rattle.netlist_model.specs.Lists.{CellView, NetlistView, cell_at}
use Rattle.netlist_model.specs.Settled.{feed_values, IsSettled}
use Rattle.netlist_model.specs.Cones.{IsControlPort}
use Rattle.netlist_model.specs.Formed.{IsWellFormed}
use Rattle.netlist_model.specs.Runs.{Moment, PinEvent, IsKnownPin, IsLegal, IsStart, IsStep, pins_after}
use Rattle.netlist_model.specs.Settle.{SamePins, SameFlops}
use Rattle.netlist_model.specs.LawsRuns.{SameControlNets, SameMoment, RunExists, RunOnce, cell_start, cell_next}
use Rattle.netlist_model.proofs.Pins.{settled_exists, settled_once}
use Rattle.netlist_model.proofs.Flops.{clock_same, reset_same, flop_start-same, flop_next-after, flops_start_once, flops_step_once}
use Rattle.netlist_model.proofs.Moments.{event_at, controls_same}

-- the settled valuation
abbrev settled_value : (N : NetlistView) → IsWellFormed N → (ℕ → PinSig) → (ℕ → Sig) → ℕ → Sig
settled_value N formed pins state = (settled_exists N formed pins state).0

settled_value-settled : (N : NetlistView) (formed : IsWellFormed N) (pins : ℕ → PinSig) (state : ℕ → Sig) → IsSettled N pins state (settled_value N formed pins state)
settled_value-settled N formed pins state = (settled_exists N formed pins state).1

abbrev start_state : NetlistView → (ℕ → Sig) → (ℕ → Sig) → ℕ → Sig
start_state N value given i = cell_start N.library (cell_at N i) value (given i)

abbrev next_state : NetlistView → (ℕ → Sig) → (ℕ → Sig) → (ℕ → Sig) → ℕ → Sig
next_state N before after state i = cell_next N.library (cell_at N i) before after (state i)

start_state-flop : (N : NetlistView) (value given : ℕ → Sig) (i : ℕ) (cell : CellView) (kind : FlopKind) → cell_at N i ≡ Some cell → flop_of N.library cell.kind ≡ Some kind
    → start_state N value given i ≡ flop_start kind (feed_values value cell.feeds) (given i)
start_state-flop N value given i cell kind live flop = rw (live, flop) refl

next_state-flop : (N : NetlistView) (before after state : ℕ → Sig) (i : ℕ) (cell : CellView) (kind : FlopKind) → cell_at N i ≡ Some cell → flop_of N.library cell.kind ≡ Some kind
    → next_state N before after state i ≡ flop_next kind (feed_values before cell.feeds) (feed_values after cell.feeds) (state i)
next_state-flop N before after state i cell kind live flop = rw (live, flop) refl

-- the start: the control nets settle first
abbrev start_moment : (N : NetlistView) → IsWellFormed N → (ℕ → PinSig) → (ℕ → Sig) → Moment
start_moment N formed pins given =
    let state : ℕ → Sig = start_state N (settled_value N formed pins given) given in
    record { pins = pins; state = state; value = settled_value N formed pins state }

start_is_start : (N : NetlistView) (formed : IsWellFormed N) (pins : ℕ → PinSig) (given : ℕ → Sig) → ((net : ℕ) → IsControlPort N net → IsKnownPin (pins net))
    → IsStart N given (start_moment N formed pins given)
start_is_start N formed pins given known =
    let first : ℕ → Sig = settled_value N formed pins given in
    let state : ℕ → Sig = start_state N first given in
    let value : ℕ → Sig = settled_value N formed pins state in
    let controls : SameControlNets N first value
    = controls_same N pins pins given state first value formed (λ net g. refl) (settled_value-settled N formed pins given) (settled_value-settled N formed pins state) in
    record {
      controls = known;
      settled = settled_value-settled N formed pins state;
      flops = record {
        each = λ i cell kind live flop.
            start_state-flop N first given i cell kind live flop
            ∙ flop_start-same kind (feed_values first cell.feeds) (feed_values value cell.feeds) (given i) (given i) (reset_same N i cell kind first value live flop controls) refl;
      };
    }

-- the next moment: the control nets settle first
abbrev next_moment : (N : NetlistView) → IsWellFormed N → PinEvent → Moment → Moment
next_moment N formed event m =
    let pins : ℕ → PinSig = pins_after m.pins event in
    let state : ℕ → Sig = next_state N m.value (settled_value N formed pins m.state) m.state in
    record { pins = pins; state = state; value = settled_value N formed pins state }

next_is_step : (N : NetlistView) (formed : IsWellFormed N) (event : PinEvent) (m : Moment) → IsLegal N event → IsStep N event m (next_moment N formed event m)
next_is_step N formed event m legal =
    let pins : ℕ → PinSig = pins_after m.pins event in
    let first : ℕ → Sig = settled_value N formed pins m.state in
    let state : ℕ → Sig = next_state N m.value first m.state in
    let value : ℕ → Sig = settled_value N formed pins state in
    let controls : SameControlNets N first value
    = controls_same N pins pins m.state state first value formed (λ net g. refl) (settled_value-settled N formed pins m.state) (settled_value-settled N formed pins state) in
    record {
      legal = legal;
      pins = λ net. refl;
      settled = settled_value-settled N formed pins state;
      flops = record {
        each = λ i cell kind live flop.
            next_state-flop N m.value first m.state i cell kind live flop
            ∙ flop_next-after kind (feed_values m.value cell.feeds) (feed_values m.value cell.feeds) (feed_values first cell.feeds) (feed_values value cell.feeds) (m.state i) (m.state i)
            refl (clock_same N i cell kind first value live flop controls) (reset_same N i cell kind first value live flop controls) refl;
      };
    }

abbrev advance : (N : NetlistView) → IsWellFormed N → Option PinEvent → Moment → Moment
advance N formed None m = m
advance N formed (Some event) m = next_moment N formed event m

abbrev run_moment : (N : NetlistView) → IsWellFormed N → (ℕ → PinSig) → (ℕ → Sig) → List PinEvent → ℕ → Moment
run_moment N formed pins given events zero = start_moment N formed pins given
run_moment N formed pins given events (suc t) = advance N formed (slice_get events t) (run_moment N formed pins given events t)

all_at : (P : PinEvent → Type 0) (xs : List PinEvent) (k : ℕ) (x : PinEvent) → All P xs → slice_get xs k ≡ Some x → P x
all_at P [] k x all e = absurd (cc)
all_at P (y ∷ xs) zero x all e = let same : y ≡ x = cc in rw same at (All-head P y xs all)
all_at P (y ∷ xs) (suc k) x all e = all_at P xs k x (All-tail P y xs all) e

advance_is_step : (N : NetlistView) (formed : IsWellFormed N) (next : Option PinEvent) (event : PinEvent) (m : Moment) → IsLegal N event → next ≡ Some event
    → IsStep N event m (advance N formed next m)
advance_is_step N formed next event m legal e = rw e (next_is_step N formed event m legal)

pub run_exists : RunExists
run_exists N formed pins given events known legal = (
  run_moment N formed pins given events,
  record {
    start = start_is_start N formed pins given known;
    steps = λ t event at. advance_is_step N formed (slice_get events t) event (run_moment N formed pins given events t) (all_at (IsLegal N) events t event legal at) at;
  },
  λ net. refl,
)

pub start_same : (N : NetlistView) (given given' : ℕ → Sig) (m m' : Moment) → IsWellFormed N → IsStart N given m → IsStart N given' m' → SamePins N m.pins m'.pins → SameFlops N given given'
    → SameMoment N m m'
start_same N given given' m m' formed a b pins same =
    let controls : SameControlNets N m.value m'.value
    = controls_same N m.pins m'.pins m.state m'.state m.value m'.value formed pins a.settled b.settled in
    let flops : SameFlops N m.state m'.state = flops_start_once N given given' m.value m'.value m.state m'.state same controls a.flops b.flops in
    record { pins = pins; flops = flops; value = settled_once N formed m.pins m'.pins m.state m'.state m.value m'.value pins flops a.settled b.settled }

pub pins_after-same : (N : NetlistView) (pins pins' : ℕ → PinSig) (event : PinEvent) → SamePins N pins pins' → SamePins N (pins_after pins event) (pins_after pins' event)
pins_after-same N pins pins' event same net g =
    elim (eqb_tells net event.net) [
      | inl e ↦ rw e.0 refl
      | inr e ↦ rw e.0 (same net g)
    ]

pub step_same : (N : NetlistView) (event : PinEvent) (m m' n n' : Moment) → IsWellFormed N → SameMoment N m m' → IsStep N event m n → IsStep N event m' n' → SameMoment N n n'
step_same N event m m' n n' formed same a b =
    let pins : SamePins N n.pins n'.pins = λ net g. a.pins net ∙ pins_after-same N m.pins m'.pins event same.pins net g ∙ sym (b.pins net) in
    let controls : SameControlNets N n.value n'.value
    = controls_same N n.pins n'.pins n.state n'.state n.value n'.value formed pins a.settled b.settled in
    let flops : SameFlops N n.state n'.state
    = flops_step_once N m.value m'.value n.value n'.value m.state m'.state n.state n'.state same.value controls same.flops a.flops b.flops in
    record { pins = pins; flops = flops; value = settled_once N formed n.pins n'.pins n.state n'.state n.value n'.value pins flops a.settled b.settled }

pub run_once : RunOnce
run_once N given given' events moment moment' formed a b pins same zero h = start_same N given given' (moment 0) (moment' 0) formed a.start b.start pins same
run_once N given given' events moment moment' formed a b pins same (suc t) h =
    let e = event_at events t h in
    step_same N e.0 (moment t) (moment' t) (moment (suc t)) (moment' (suc t)) formed (run_once N given given' events moment moment' formed a b pins same t (omega arith))
    (a.steps t e.0 e.1) (b.steps t e.0 e.1)
