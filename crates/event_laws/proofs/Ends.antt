-- How an event begins and ends: a settled netlist is at rest, a pin's value wakes what waits on its net, and an empty queue is a step.
use Rattle.std.proofs.Common.{◌≡◌, ◌≢◌, ◌⊎◌, ◌↔◌, ℕ, ◌+◌, ◌<◌, ◌≤◌, true, false, List, Option, Some, None, refl, sym, ap, ◌∙◌, inl, inr, arith, ◌==◌, if◌then◌else◌}
use Rattle.std.proofs.lemmas.Bool.Decides.{eqb_tells}
use Rattle.signal_values.specs.declared.Sig.{Sig}
use Rattle.signal_values.specs.declared.Sig.TheVariants.{Unknown}
use Rattle.signal_values.specs.declared.PinSig.{PinSig}
use Rattle.signal_values.specs.Values.{see, join}
use Rattle.cell_library.specs.declared.Kind.{Kind}
use Rattle.cell_library.specs.declared.listed.ListedCell.{ListedCell}
use Rattle.cell_library.specs.declared.FlopKind.{FlopKind}
use Rattle.cell_library.specs.Gates.{flop_of, operand}
use Rattle.cell_library.specs.Flops.{flop_next, flop_start, is_edge}
use Rattle.netlist_model.specs.declared.Dir.{Dir}
use Rattle.netlist_model.specs.declared.Dir.TheVariants.{Input, Output, Inout}
use Rattle.netlist_model.specs.Lists.{CellView, NetlistView, cell_at, direction, Drives, IsUndriven}
use Rattle.netlist_model.specs.Settled.{feed_values, follows_pin, cell_value, pin_rule, IsSettled}
use Rattle.netlist_model.specs.Formed.{IsWellFormed, IsDriven}
use Rattle.netlist_model.specs.LawsRuns.{kind_next, next_if}
use Rattle.netlist_model.proofs.Search.{driver_of-driven}
use Rattle.netlist_model.proofs.Flops.{reset_or-twice, flop_next-same}
use Rattle.netlist_model.proofs.Pins.{pin_kinds, pin_rule-input, pin_rule-inout, cell_drive-three_state}
use Rattle.netlist_settling.specs.Passes.{undriven_value, driven_value}
use Rattle.event_laws.specs.Work.{Event, IsDone}
use Rattle.event_laws.specs.Laws.{StartsRest, EventQueues, EventSteps}
use Rattle.event_laws.proofs.Inputs.{SameWaited, sig_cases, next_same, driven_same, drive_same}

-- a flip-flop that was cleared or preset rests
rests : (k : FlopKind) (xs : List Sig) (given s : Sig) → s ≡ flop_start k xs given → s ≡ flop_next k xs xs s
rests k xs given s is =
    let again : flop_start k xs s ≡ s = ap (λ (t : Sig). flop_start k xs t) is ∙ reset_or-twice k.reset (operand xs 2) given ∙ sym is in
    sym (flop_next-same k xs xs s refl refl (sym again))

-- what a cell keeps after a step or a start, it keeps where nothing happens
rest_if : (o : Option FlopKind) (before after : List Sig) (old s : Sig) → s ≡ next_if o before after old → s ≡ next_if o after after s
rest_if None before after old s is = refl
rest_if (Some k) before after old s is = rests k after (if is_edge k.edge (operand before 1) (operand after 1) then operand before 0 else old) s is

rest_next : (library : List ListedCell) (kind : Kind) (before after : List Sig) (old s : Sig) → s ≡ kind_next library kind before after old → s ≡ kind_next library kind after after s
rest_next library kind before after old s is = rest_if (flop_of library kind) before after old s is

rest_start_if : (o : Option FlopKind) (xs : List Sig) (given s : Sig) → ((k : FlopKind) → o ≡ Some k → s ≡ flop_start k xs given) → s ≡ next_if o xs xs s
rest_start_if None xs given s is = refl
rest_start_if (Some k) xs given s is = rests k xs given s (is k refl)

rest_start : (library : List ListedCell) (kind : Kind) (xs : List Sig) (given s : Sig) → ((k : FlopKind) → flop_of library kind ≡ Some k → s ≡ flop_start k xs given) → s ≡ kind_next library kind xs xs s
rest_start library kind xs given s is = rest_start_if (flop_of library kind) xs given s is

-- what an inout's driver makes of its net
inout_driven : (N : NetlistView) (number : ℕ) (cell : CellView) (net : ℕ) (pins : ℕ → PinSig) (value : ℕ → Sig) (kept : Sig) → IsWellFormed N → Drives N number cell net
    → direction N.ports net ≡ Some Inout → pin_rule N pins value net ≡ driven_value N.library (Some Inout) cell.kind (feed_values value cell.feeds) kept (pins net)
inout_driven N number cell net pins value kept formed drives is =
    let three = formed.inout_bufif number cell net drives is in
    let drive = cell_drive-three_state cell.kind (feed_values value cell.feeds) (value net) Unknown three in
    let driver = driver_of-driven N number cell net formed.one_driver drives in
    rw (pin_rule-inout N pins value net is, driver) (ap (λ (p : PinSig). see (join p (pins net))) drive)

settled_gives : (N : NetlistView) (pins : ℕ → PinSig) (state value : ℕ → Sig) (number : ℕ) (cell : CellView) (net : ℕ) → IsWellFormed N → IsSettled N pins state value → Drives N number cell net
    → (dir : Option Dir) → direction N.ports net ≡ dir → value net ≡ driven_value N.library dir cell.kind (feed_values value cell.feeds) (state number) (pins net)
settled_gives N pins state value number cell net formed settled drives (Some Input) is = absurd (formed.inputs_free number cell net drives is)
settled_gives N pins state value number cell net formed settled drives (Some Inout) is =
    settled.pins net (ap follows_pin is) ∙ inout_driven N number cell net pins value (state number) formed drives is
settled_gives N pins state value number cell net formed settled drives (Some Output) is = settled.cells number cell net drives (ap follows_pin is)
settled_gives N pins state value number cell net formed settled drives None is = settled.cells number cell net drives (ap follows_pin is)

settled_free : (N : NetlistView) (pins : ℕ → PinSig) (state value : ℕ → Sig) (net : ℕ) → IsWellFormed N → IsSettled N pins state value → IsUndriven N net
    → (dir : Option Dir) → direction N.ports net ≡ dir → value net ≡ undriven_value dir (pins net)
settled_free N pins state value net formed settled none (Some Input) is = settled.pins net (ap follows_pin is) ∙ pin_rule-input N pins value net is
settled_free N pins state value net formed settled none (Some Inout) is = absurd (let d : IsDriven N net = formed.inouts_driven net is in none d.number d.cell d.drives.live d.drives.output)
settled_free N pins state value net formed settled none (Some Output) is = settled.undriven net (ap follows_pin is) none
settled_free N pins state value net formed settled none None is = settled.undriven net (ap follows_pin is) none

pub starts_rest : StartsRest
starts_rest N given m drive formed start driven = record {
  done = λ number cell live. record {
    keeps = rest_start N.library cell.kind (feed_values m.value cell.feeds) (given number) (m.state number) (λ k flop. start.flops.each number cell k live flop);
    gives = λ net out. settled_gives N m.pins m.state m.value number cell net formed start.settled (record { live = live; output = out }) (direction N.ports net) refl;
    shows = λ net out three. driven.each number cell net (record { live = live; output = out }) three;
  };
  free = λ net none. settled_free N m.pins m.state m.value net formed start.settled none (direction N.ports net) refl;
}

inside_value : (library : List ListedCell) (dir : Option Dir) (kind : Kind) (inputs : List Sig) (kept : Sig) (outside : PinSig) → follows_pin dir ≡ false
    → driven_value library dir kind inputs kept outside ≡ cell_value library kind inputs kept
inside_value library (Some Input) kind inputs kept outside inside = absurd (let e : true ≡ false = inside in cc)
inside_value library (Some Inout) kind inputs kept outside inside = absurd (let e : true ≡ false = inside in cc)
inside_value library (Some Output) kind inputs kept outside inside = refl
inside_value library None kind inputs kept outside inside = refl

inside_undriven : (dir : Option Dir) (outside : PinSig) → follows_pin dir ≡ false → undriven_value dir outside ≡ Unknown
inside_undriven (Some Input) outside inside = absurd (let e : true ≡ false = inside in cc)
inside_undriven (Some Inout) outside inside = absurd (let e : true ≡ false = inside in cc)
inside_undriven (Some Output) outside inside = refl
inside_undriven None outside inside = refl

-- where each cell agrees, the netlist is settled
all_settled : (N : NetlistView) (e : Event) (value state : ℕ → Sig) (drive : ℕ → PinSig) → IsWellFormed N → ((number : ℕ) (cell : CellView) → cell_at N number ≡ Some cell → IsDone N e value state drive number cell)
    → ((net : ℕ) → IsUndriven N net → value net ≡ undriven_value (direction N.ports net) (e.pins net)) → IsSettled N e.pins state value
all_settled N e value state drive formed done free = record {
  pins = λ net follows.
      elim (pin_kinds (direction N.ports net) follows) [
        | inl is ↦ (let none : IsUndriven N net = λ i cell live out. formed.inputs_free i cell net (record { live = live; output = out }) is in
            let seen = rw is at (free net none) in
            seen ∙ sym (pin_rule-input N e.pins value net is))
        | inr is ↦ (let d : IsDriven N net = formed.inouts_driven net is in
            let seen = rw is at ((done d.number d.cell d.drives.live).gives net d.drives.output) in
            seen ∙ sym (inout_driven N d.number d.cell net e.pins value (state d.number) formed d.drives is))
      ];
  cells = λ i cell net drives inside. (done i cell drives.live).gives net drives.output ∙ inside_value N.library (direction N.ports net) cell.kind _ (state i) (e.pins net) inside;
  undriven = λ net inside none. free net none ∙ inside_undriven (direction N.ports net) (e.pins net) inside;
}

pub event_steps : EventSteps
event_steps N turn event pins pins' value state value' state' drive' queued from formed legal pinned empty pending = record {
  step = record {
    legal = legal;
    pins = pinned;
    settled = all_settled N now value' state' drive' formed done pending.free;
    flops = record {
      each = λ i cell kind live flop. (done i cell live).keeps ∙ ap (λ (o : Option FlopKind). next_if o (feed_values value cell.feeds) (feed_values value' cell.feeds) (state i)) flop;
    };
  };
  rest = record {
    done = λ number cell live. record {
      keeps = rest_next N.library cell.kind (feed_values value cell.feeds) (feed_values value' cell.feeds) (state number) (state' number) (done number cell live).keeps;
      gives = (done number cell live).gives;
      shows = (done number cell live).shows;
    };
    free = pending.free;
  };
}
  where
    now : Event
    now = record { pins = pins'; before = value; old = state }

    done : (number : ℕ) (cell : CellView) → cell_at N number ≡ Some cell → IsDone N now value' state' drive' number cell
    done number cell live = pending.done number cell live (empty (turn number))

pub event_queues : EventQueues
event_queues N turn event pins pins' value value' state drive queued from formed turns legal rest taken each frontier = record {
  done = λ number cell live not_queued. record {
    shows = λ net out three. (rest.done number cell live).shows net out three ∙ drive_same N number cell value value' live three (inputs number not_queued);
    keeps = (rest.done number cell live).keeps ∙ next_same N number cell (feed_values value cell.feeds) value value' (state number) live (inputs number not_queued);
    gives = λ net out. elim (eqb_tells net event.net) [
      | inl here ↦ own number cell net live out here.1 (inputs number not_queued)
      | inr apart ↦ taken.others net apart.1 ∙ (rest.done number cell live).gives net out
          ∙ driven_same N number cell (direction N.ports net) value value' (state number) (pins net) live (inputs number not_queued)
          ∙ ap (λ (p : PinSig). driven_value N.library (direction N.ports net) cell.kind (feed_values value' cell.feeds) (state number) p) (sym (other_pin net apart.0))
    ];
  };
  free = λ net none. elim (eqb_tells net event.net) [
    | inl here ↦ own_free net none here.1
    | inr apart ↦ taken.others net apart.1 ∙ rest.free net none ∙ ap (undriven_value (direction N.ports net)) (sym (other_pin net apart.0))
  ];
  later = λ number cell net drives late.
      taken.others net (λ e. (let first = frontier.driver number cell (rw e at drives) in let l = late in omega arith));
  kept = λ number cell live late. refl;
  queue = λ t q. (let f = (each t).0 q in record {
    number = f.reader;
    net = event.net;
    waits = f.waits;
    changed = f.changed;
    there = f.there;
    later = (let l = frontier.readers f.reader f.waits in let th = f.there in omega arith);
  });
}
  where
    other_pin : (net : ℕ) → (net == event.net) ≡ false → pins' net ≡ pins net
    other_pin net apart = taken.pinned net ∙ rw apart refl

    inputs : (number : ℕ) → (queued (turn number) ≡ 1 → ⊥) → SameWaited N number value value'
    inputs number not_queued net waits =
        elim (eqb_tells net event.net) [
          | inl here ↦ elim (sig_cases (value' event.net) (value event.net)) [
            | inl same ↦ rw here.1 (sym same)
            | inr changed ↦ absurd (not_queued ((each (turn number)).1 (record { reader = number; changed = changed; waits = rw here.1 at waits; there = refl })))
          ]
          | inr apart ↦ sym (taken.others net apart.1)
        ]

    own : (number : ℕ) (cell : CellView) (net : ℕ) → cell_at N number ≡ Some cell → cell.output ≡ Some (record { 0 = net }) → net ≡ event.net → SameWaited N number value value'
        → value' net ≡ driven_value N.library (direction N.ports net) cell.kind (feed_values value' cell.feeds) (state number) (pins' net)
    own number cell net live out here waited =
        let drives = (let d : Drives N number cell net = record { live = live; output = out } in d) in
        let follows : follows_pin (direction N.ports net) ≡ true = rw here legal.taken in
        elim (pin_kinds (direction N.ports net) follows) [
          | inl is ↦ absurd (formed.inputs_free number cell net drives is)
          | inr is ↦ (let given : value' net ≡ pin_rule N pins' value net = rw here taken.given in
              rw is (given ∙ inout_driven N number cell net pins' value (state number) formed drives is
              ∙ driven_same N number cell (Some Inout) value value' (state number) (pins' net) live waited))
        ]

    own_free : (net : ℕ) → IsUndriven N net → net ≡ event.net → value' net ≡ undriven_value (direction N.ports net) (pins' net)
    own_free net none here =
        let follows : follows_pin (direction N.ports net) ≡ true = rw here legal.taken in
        elim (pin_kinds (direction N.ports net) follows) [
          | inl is ↦ (let given : value' net ≡ pin_rule N pins' value net = rw here taken.given in rw is (given ∙ pin_rule-input N pins' value net is))
          | inr is ↦ absurd (let d : IsDriven N net = formed.inouts_driven net is in none d.number d.cell d.drives.live d.drives.output)
        ]
