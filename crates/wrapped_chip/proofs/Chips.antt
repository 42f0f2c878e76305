-- The wrapped chip has one valuation, and a run from each power-up.
use Rattle.std.proofs.Common.{subst, ap, sym, arith, ◌≡◌, ◌<◌, ℕ, zero, suc, false, List, [], ◌∷◌, All, length, refl, ◌∙◌, Option}
use Rattle.std.proofs.Math.Path.{fun_ext}
use Rattle.std.specs.Prelude.{Some, None, slice_get}
use Rattle.std.proofs.lemmas.List.Elements.{All-head, All-tail}
use Rattle.signal_values.specs.declared.Sig.{Sig}
use Rattle.signal_values.specs.declared.PinSig.{PinSig}
use Rattle.cell_library.specs.Gates.{flop_of}
use Rattle.cell_library.specs.declared.listed.ListedCell.{ListedCell}
use Rattle.cell_library.specs.declared.FlopKind.{FlopKind}
use Rattle.cell_library.specs.Flops.{flop_next, flop_start}
use Rattle.netlist_model.specs.Lists.{CellView, NetlistView, cell_at}
use Rattle.netlist_model.specs.Settled.{feed_values, Meets}
use Rattle.netlist_model.specs.Cones.{IsControlPort}
use Rattle.netlist_model.specs.Formed.{IsWellFormed}
use Rattle.netlist_model.specs.Runs.{IsKnownPin}
use Rattle.netlist_model.specs.Settle.{SameFlops}
use Rattle.netlist_model.specs.LawsRuns.{SameControlNets, cell_start, cell_next}
use Rattle.netlist_model.proofs.Once.{agree_inside}
use Rattle.netlist_model.proofs.Exists.{meets_exists}
use Rattle.netlist_model.proofs.Controls.{controls_once}
use Rattle.netlist_model.proofs.Flops.{clock_same, reset_same, flop_start-same, flop_next-after, flops_start_once, flops_step_once}
use Rattle.test_logic.specs.declared.Levels.{Levels}
use Rattle.test_logic.specs.Machine.{Machine, reset, machine_step, test_logic_of}
use Rattle.test_logic.specs.bsdl_device.declared.values.Device.{Device}
use Rattle.wrapped_chip.specs.Cells.{chip_rule, captured}
use Rattle.wrapped_chip.specs.ChipRuns.{ChipMoment, ChipEvent, IsChipLegal, IsPowerUp, IsChipSettled, IsChipStep, chip_pins_after, levels_after}
use Rattle.wrapped_chip.specs.Laws.{ChipSettledExists, ChipSettledOnce, ChipRunExists, SameChipMoment, ChipRunOnce}
use Rattle.wrapped_chip.proofs.Causal.{chip_rule_same, input_rule_same, chip_causal}

pub chip_settled_exists : ChipSettledExists
chip_settled_exists B N formed m pins state =
    meets_exists N formed.ordered.0 (chip_rule B N m pins) state formed.ordered.1 (chip_causal B N formed.ordered.0 m pins formed formed.ordered.1) formed.one_driver

pub chip_settled_once : ChipSettledOnce
chip_settled_once B N formed m pins pins' state state' v v' same_pins same_flops a b net =
    agree_inside N (λ n. Unit {0}) formed.ordered.0 (chip_rule B N m pins) (chip_rule B N m pins') state state' v v' formed.ordered.1 (λ n other here reads. tt)
    (λ i cell kind n d here e. same_flops i cell kind d.live e)
    (λ n here g lower. chip_rule_same B N formed.ordered.0 m pins pins' v v' n formed formed.ordered.1 g (same_pins n g) (λ other less. lower other tt less)) a b net tt

-- what clocks, clears or presets flip-flops is the same whatever they hold
chip_controls_same : (B : Device) (N : NetlistView) (m : Machine) (pins : ℕ → PinSig) (state state' v v' : ℕ → Sig) → IsWellFormed N
    → Meets N (chip_rule B N m pins) state v → Meets N (chip_rule B N m pins) state' v' → SameControlNets N v v'
chip_controls_same B N m pins state state' v v' formed a b net control =
    controls_once N (chip_rule B N m pins) (chip_rule B N m pins) state state' v v' formed a b (λ port is. input_rule_same B N m pins pins v v' port formed is.0 refl) net control

start_flop : (library : List ListedCell) (place : Option CellView) (value : ℕ → Sig) (given : Sig) (cell : CellView) (kind : FlopKind) → place ≡ Some cell → flop_of library cell.kind ≡ Some kind
    → cell_start library place value given ≡ flop_start kind (feed_values value cell.feeds) given
start_flop library place value given cell kind live flop = rw (live, flop) refl

next_flop : (library : List ListedCell) (place : Option CellView) (before after : ℕ → Sig) (kept : Sig) (cell : CellView) (kind : FlopKind) → place ≡ Some cell → flop_of library cell.kind ≡ Some kind
    → cell_next library place before after kept ≡ flop_next kind (feed_values before cell.feeds) (feed_values after cell.feeds) kept
next_flop library place before after kept cell kind live flop = rw (live, flop) refl

abbrev valuation : (B : Device) (N : NetlistView) → IsWellFormed N → Machine → (ℕ → PinSig) → (ℕ → Sig) → ℕ → Sig
valuation B N formed m pins state = (chip_settled_exists B N formed m pins state).0

valuation-meets : (B : Device) (N : NetlistView) (formed : IsWellFormed N) (m : Machine) (pins : ℕ → PinSig) (state : ℕ → Sig)
    → Meets N (chip_rule B N m pins) state (valuation B N formed m pins state)
valuation-meets B N formed m pins state = (chip_settled_exists B N formed m pins state).1

-- the power-up: the control nets settle first
abbrev first_moment : (B : Device) (N : NetlistView) → IsWellFormed N → Levels → (ℕ → PinSig) → (ℕ → Sig) → ChipMoment
first_moment B N formed levels pins given =
    let m : Machine = reset (test_logic_of B) in
    let state : ℕ → Sig = λ i. cell_start N.library (cell_at N i) (valuation B N formed m pins given) (given i) in
    record { levels = levels; pins = pins; machine = m; state = state; value = valuation B N formed m pins state }

first_is_power_up : (B : Device) (N : NetlistView) (formed : IsWellFormed N) (levels : Levels) (pins : ℕ → PinSig) (given : ℕ → Sig) → levels.trst ≡ false
    → ((net : ℕ) → IsControlPort N net → IsKnownPin (pins net)) → IsPowerUp B N given (first_moment B N formed levels pins given)
first_is_power_up B N formed levels pins given low known =
    let m : Machine = reset (test_logic_of B) in
    let first : ℕ → Sig = valuation B N formed m pins given in
    let state : ℕ → Sig = λ i. cell_start N.library (cell_at N i) first (given i) in
    let value : ℕ → Sig = valuation B N formed m pins state in
    let controls : SameControlNets N first value
    = chip_controls_same B N m pins given state first value formed (valuation-meets B N formed m pins given) (valuation-meets B N formed m pins state) in
    record {
      low = low;
      machine = refl;
      controls = known;
      settled = valuation-meets B N formed m pins state;
      flops = record {
        each = λ i cell kind live flop.
            start_flop N.library (cell_at N i) first (given i) cell kind live flop
            ∙ flop_start-same kind (feed_values first cell.feeds) (feed_values value cell.feeds) (given i) (given i) (reset_same N i cell kind first value live flop controls) refl;
      };
    }

-- the next moment: the machine steps, and the control nets settle first
abbrev next_moment : (B : Device) (N : NetlistView) → IsWellFormed N → ChipEvent → ChipMoment → ChipMoment
next_moment B N formed event w =
    let levels : Levels = levels_after w.levels event in
    let pins : ℕ → PinSig = chip_pins_after w.pins event in
    let m : Machine = machine_step (test_logic_of B) w.levels levels (captured B N w.machine w.pins w.value) w.machine in
    let state : ℕ → Sig = λ i. cell_next N.library (cell_at N i) w.value (valuation B N formed m pins w.state) (w.state i) in
    record { levels = levels; pins = pins; machine = m; state = state; value = valuation B N formed m pins state }

next_is_step : (B : Device) (N : NetlistView) (formed : IsWellFormed N) (event : ChipEvent) (w : ChipMoment) → IsChipLegal N event → IsChipStep B N event w (next_moment B N formed event w)
next_is_step B N formed event w legal =
    let levels : Levels = levels_after w.levels event in
    let pins : ℕ → PinSig = chip_pins_after w.pins event in
    let m : Machine = machine_step (test_logic_of B) w.levels levels (captured B N w.machine w.pins w.value) w.machine in
    let first : ℕ → Sig = valuation B N formed m pins w.state in
    let state : ℕ → Sig = λ i. cell_next N.library (cell_at N i) w.value first (w.state i) in
    let value : ℕ → Sig = valuation B N formed m pins state in
    let controls : SameControlNets N first value
    = chip_controls_same B N m pins w.state state first value formed (valuation-meets B N formed m pins w.state) (valuation-meets B N formed m pins state) in
    record {
      legal = legal;
      levels = refl;
      pins = λ net. refl;
      machine = refl;
      settled = valuation-meets B N formed m pins state;
      flops = record {
        each = λ i cell kind live flop.
            next_flop N.library (cell_at N i) w.value first (w.state i) cell kind live flop
            ∙ flop_next-after kind (feed_values w.value cell.feeds) (feed_values w.value cell.feeds) (feed_values first cell.feeds) (feed_values value cell.feeds) (w.state i) (w.state i)
            refl (clock_same N i cell kind first value live flop controls) (reset_same N i cell kind first value live flop controls) refl;
      };
    }

abbrev advance : (B : Device) (N : NetlistView) → IsWellFormed N → Option ChipEvent → ChipMoment → ChipMoment
advance B N formed None w = w
advance B N formed (Some event) w = next_moment B N formed event w

abbrev run_moment : (B : Device) (N : NetlistView) → IsWellFormed N → Levels → (ℕ → PinSig) → (ℕ → Sig) → List ChipEvent → ℕ → ChipMoment
run_moment B N formed levels pins given events zero = first_moment B N formed levels pins given
run_moment B N formed levels pins given events (suc t) = advance B N formed (slice_get events t) (run_moment B N formed levels pins given events t)

all_at : (P : ChipEvent → Type 0) (xs : List ChipEvent) (k : ℕ) (x : ChipEvent) → All P xs → slice_get xs k ≡ Some x → P x
all_at P [] k x all e = absurd (cc)
all_at P (y ∷ xs) zero x all e = let same : y ≡ x = cc in rw same at (All-head P y xs all)
all_at P (y ∷ xs) (suc k) x all e = all_at P xs k x (All-tail P y xs all) e

advance_is_step : (B : Device) (N : NetlistView) (formed : IsWellFormed N) (next : Option ChipEvent) (event : ChipEvent) (w : ChipMoment) → IsChipLegal N event → next ≡ Some event
    → IsChipStep B N event w (advance B N formed next w)
advance_is_step B N formed next event w legal e = rw e (next_is_step B N formed event w legal)

pub chip_run_exists : ChipRunExists
chip_run_exists B N formed levels pins given events low known legal = (
  run_moment B N formed levels pins given events,
  record {
    start = first_is_power_up B N formed levels pins given low known;
    steps = λ t event at. advance_is_step B N formed (slice_get events t) event (run_moment B N formed levels pins given events t) (all_at (IsChipLegal N) events t event legal at) at;
  },
  refl,
  λ net. refl,
)

pub event_at : (events : List ChipEvent) (t : ℕ) → t < length events → (event : ChipEvent) × (slice_get events t ≡ Some event)
event_at [] t h = absurd (omega arith)
event_at (e ∷ es) zero h = (e, refl)
event_at (e ∷ es) (suc t) h = event_at es t (omega arith)

-- a valuation by an equal machine
of_machine : (B : Device) (N : NetlistView) (m m' : Machine) (pins : ℕ → PinSig) (state value : ℕ → Sig) → m ≡ m' → Meets N (chip_rule B N m' pins) state value
    → Meets N (chip_rule B N m pins) state value
of_machine B N m m' pins state value e meets = let P : Machine → Type 0 = λ n. Meets N (chip_rule B N n pins) state value in subst P (sym e) meets

captured_same : (B : Device) (N : NetlistView) (m m' : Machine) (pins pins' : ℕ → PinSig) (v v' : ℕ → Sig) → m ≡ m' → ((net : ℕ) → pins net ≡ pins' net)
    → ((net : ℕ) → v net ≡ v' net) → captured B N m pins v ≡ captured B N m' pins' v'
captured_same B N m m' pins pins' v v' e p q =
    ap (λ n. captured B N n pins v) e ∙ ap (λ (f : ℕ → PinSig). captured B N m' f v) (fun_ext p) ∙ ap (λ (f : ℕ → Sig). captured B N m' pins' f) (fun_ext q)

-- two moments with the same levels, machine and pins, where what clocks and holds the flip-flops fits
pub moment_same : (B : Device) (N : NetlistView) (w w' : ChipMoment) → IsWellFormed N → w.levels ≡ w'.levels → w.machine ≡ w'.machine → ((net : ℕ) → w.pins net ≡ w'.pins net)
    → (SameControlNets N w.value w'.value → SameFlops N w.state w'.state) → IsChipSettled B N w → IsChipSettled B N w' → SameChipMoment N w w'
moment_same B N w w' formed levels machine pins hold a b =
    let b' : Meets N (chip_rule B N w.machine w'.pins) w'.state w'.value = of_machine B N w.machine w'.machine w'.pins w'.state w'.value machine b in
    let controls : SameControlNets N w.value w'.value
    = λ net control. controls_once N (chip_rule B N w.machine w.pins) (chip_rule B N w.machine w'.pins) w.state w'.state w.value w'.value formed a b'
    (λ port is. input_rule_same B N w.machine w.pins w'.pins w.value w'.value port formed is.0 (pins port)) net control in
    let flops : SameFlops N w.state w'.state = hold controls in
    record {
      levels = levels;
      machine = machine;
      pins = pins;
      flops = flops;
      value = chip_settled_once B N formed w.machine w.pins w'.pins w.state w'.state w.value w'.value (λ net g. pins net) flops a b';
    }

pins_after-same : (pins pins' : ℕ → PinSig) (event : ChipEvent) → ((net : ℕ) → pins net ≡ pins' net) → (net : ℕ) → chip_pins_after pins event net ≡ chip_pins_after pins' event net
pins_after-same pins pins' event same net = ap (λ (f : ℕ → PinSig). chip_pins_after f event net) (fun_ext same)

step_same : (B : Device) (N : NetlistView) (event : ChipEvent) (w w' x x' : ChipMoment) → IsWellFormed N → SameChipMoment N w w' → IsChipStep B N event w x → IsChipStep B N event w' x'
    → SameChipMoment N x x'
step_same B N event w w' x x' formed same a b =
    let L = test_logic_of B in
    let levels : x.levels ≡ x'.levels = a.levels ∙ ap (λ l. levels_after l event) same.levels ∙ sym b.levels in
    let taken = captured_same B N w.machine w'.machine w.pins w'.pins w.value w'.value same.machine same.pins same.value in
    let machine : x.machine ≡ x'.machine
    = a.machine
    ∙ ap (λ l. machine_step L l x.levels (captured B N w.machine w.pins w.value) w.machine) same.levels
    ∙ ap (λ l. machine_step L w'.levels l (captured B N w.machine w.pins w.value) w.machine) levels
    ∙ ap (λ c. machine_step L w'.levels x'.levels c w.machine) taken
    ∙ ap (λ m. machine_step L w'.levels x'.levels (captured B N w'.machine w'.pins w'.value) m) same.machine
    ∙ sym b.machine in
    moment_same B N x x' formed levels machine (λ net. a.pins net ∙ pins_after-same w.pins w'.pins event same.pins net ∙ sym (b.pins net))
    (λ controls. flops_step_once N w.value w'.value x.value x'.value w.state w'.state x.state x'.state same.value controls same.flops a.flops b.flops) a.settled b.settled

pub chip_run_once : ChipRunOnce
chip_run_once B N given given' events chip chip' formed a b levels pins same zero h =
    moment_same B N (chip 0) (chip' 0) formed levels (a.start.machine ∙ sym b.start.machine) pins
    (λ controls. flops_start_once N given given' (chip 0).value (chip' 0).value (chip 0).state (chip' 0).state same controls a.start.flops b.start.flops) a.start.settled b.start.settled
chip_run_once B N given given' events chip chip' formed a b levels pins same (suc t) h =
    let e = event_at events t (omega arith) in
    step_same B N e.0 (chip t) (chip' t) (chip (suc t)) (chip' (suc t)) formed (chip_run_once B N given given' events chip chip' formed a b levels pins same t (omega arith))
    (a.steps t e.0 e.1) (b.steps t e.0 e.1)
