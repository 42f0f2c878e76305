-- Runs beside a chip's under other numbers, both ways; and what is owed.
use Rattle.std.proofs.Common.{◌≡◌, ℕ, List, map, refl, sym, ap, ◌∙◌, subst, Some}
use Rattle.signal_values.specs.declared.Sig.{Sig}
use Rattle.signal_values.specs.declared.PinSig.{PinSig}
use Rattle.cell_library.specs.Flops.{flop_start}
use Rattle.netlist_model.specs.Lists.{CellView, NetlistView, cell_at}
use Rattle.netlist_model.specs.Settled.{feed_values}
use Rattle.netlist_model.specs.Formed.{IsWellFormed}
use Rattle.netlist_model.specs.Runs.{Moment, PinEvent, IsRun}
use Rattle.netlist_model.specs.Settle.{SameFlops}
use Rattle.netlist_model.specs.Renumbered.{IsRenumbering, renamed_event, seen_moment}
use Rattle.test_logic.specs.bsdl_device.declared.values.Device.{Device}
use Rattle.wrapped_chip.specs.ChipRuns.{ChipMoment, ChipEvent, IsChipRun}
use Rattle.wrapped_chip.specs.Realises.{SameOutside, tap_place, IsRunBeside, RealisesBy, IsStretch, core_events, IsAlone}
use Rattle.wrapped_chip.specs.CopiesLaws.{KeepsNumbers, RenumberedRealisesBy, RenumberedAlone}
use Rattle.wrapped_chip.proofs.Pins.{CopyLaws, same_bit, tap_net, same_events, events_back, reads_bit, reads_tdo}

-- A run from other values of the flip-flops, where they are the same at each live cell.
run_from : (N : NetlistView) (given other : ℕ → Sig) (events : List PinEvent) (moment : ℕ → Moment) → ((i : ℕ) (cell : CellView) → cell_at N i ≡ Some cell → given i ≡ other i)
    → IsRun N given events moment → IsRun N other events moment
run_from N given other events moment same run = record {
  start = record {
    controls = run.start.controls;
    settled = run.start.settled;
    flops = record {
      each = λ i cell kind live flop. run.start.flops.each i cell kind live flop ∙ ap (flop_start kind (feed_values (moment 0).value cell.feeds)) (same i cell live);
    };
  };
  steps = run.steps;
}

-- the chip's flip-flops keep their numbers
kept_flops : (N : NetlistView) (at : ℕ → ℕ) (state given : ℕ → Sig) → KeepsNumbers N at → SameFlops N state given → SameFlops N (λ i. state (at i)) given
kept_flops N at state given stay same i cell kind live flop = ap state (stay i cell live) ∙ same i cell kind live flop

pub flops_back : (N : NetlistView) (at : ℕ → ℕ) (state given : ℕ → Sig) → KeepsNumbers N at → SameFlops N (λ i. state (at i)) given → SameFlops N state given
flops_back N at state given stay same i cell kind live flop = ap state (sym (stay i cell live)) ∙ same i cell kind live flop

-- A run of M' is one of M.

pub pins_seen : CopyLaws → (M M' N : NetlistView) (to at : ℕ → ℕ) → IsRenumbering M M' to at → (w : ChipMoment) (pins : ℕ → PinSig) → SameOutside M' N w pins → SameOutside M N w (λ net. pins (to net))
pins_seen laws M M' N to at r w pins same = record {
  bits = λ net there bit follows. same.bits net (to there) (same_bit laws M M' N to at r net there bit) follows;
  tap = λ input net tap. same.tap input (to net) (tap_net laws M M' N to at r (tap_place input) net tap);
}

pub beside_seen : CopyLaws → (M M' N : NetlistView) (B : Device) (to at : ℕ → ℕ) → IsRenumbering M M' to at → IsWellFormed M → KeepsNumbers N at → (given : ℕ → Sig) (events : List ChipEvent)
    → (chip : ℕ → ChipMoment) (moment : ℕ → Moment) → IsRunBeside M' B N given events chip moment → IsRunBeside M B N given events chip (λ t. seen_moment to at (moment t))
beside_seen laws M M' N B to at r formed stay given events chip moment beside = record {
  start = λ i. beside.start (at i);
  same_flops = kept_flops N at beside.start given stay beside.same_flops;
  same_pins = pins_seen laws M M' N to at r (chip 0) (moment 0).pins beside.same_pins;
  there = map (renamed_event r.back) beside.there;
  same_events = same_events laws M' M N r.back r.from (laws.turns M M' to at r) events beside.there beside.same_events;
  run = laws.runs M M' to at r formed beside.start (map (renamed_event r.back) beside.there) moment
      (subst (λ (list : List PinEvent). IsRun M' beside.start list moment) (sym (events_back to r.back r.here.nets beside.there)) beside.run);
}

-- A run of M has one of M'.

start_there : (M M' : NetlistView) (to at : ℕ → ℕ) (r : IsRenumbering M M' to at) (start first : ℕ → Sig) → ((i : ℕ) (cell : CellView) → cell_at M i ≡ Some cell → first (at i) ≡ start (at i))
    → (j : ℕ) (cell : CellView) → cell_at M' j ≡ Some cell → first j ≡ start j
start_there M M' to at r start first same j cell live =
    let nested = r.here.cells j cell live in
    let back : at (r.from j) ≡ j = r.here.numbers j cell live in
    ap first (sym back) ∙ same (r.from j) _ nested.live ∙ ap start back

pins_there : CopyLaws → (M M' N : NetlistView) (to at : ℕ → ℕ) (r : IsRenumbering M M' to at) (w : ChipMoment) (pins image : ℕ → PinSig) → ((net : ℕ) → image (to net) ≡ pins net)
    → SameOutside M N w pins → SameOutside M' N w image
pins_there laws M M' N to at r w pins image across same = record {
  bits = λ net there bit follows.
      ap image (sym (r.here.nets there)) ∙ across (r.back there) ∙ same.bits net (r.back there) (same_bit laws M' M N r.back r.from (laws.turns M M' to at r) net there bit) follows;
  tap = λ input net tap.
      ap image (sym (r.here.nets net)) ∙ across (r.back net) ∙ same.tap input (r.back net) (tap_net laws M' M N r.back r.from (laws.turns M M' to at r) (tap_place input) net tap);
}

some_there : CopyLaws → (M M' N : NetlistView) (B : Device) (tdo : (ℕ → ChipMoment) → ℕ → PinSig) (to at : ℕ → ℕ) → IsRenumbering M M' to at → IsWellFormed M → KeepsNumbers N at → RealisesBy M B N tdo → (given start : ℕ → Sig)
    → (events : List ChipEvent) (chip : ℕ → ChipMoment) → IsChipRun B N given events chip → SameFlops N start given
    → (moment : ℕ → Moment) × (beside : IsRunBeside M' B N given events chip moment) × (beside.start ≡ start)
some_there laws M M' N B tdo to at r formed stay realises given start events chip run same =
    let old = realises.some given (λ i. start (at i)) events chip run (kept_flops N at start given stay same) in
    let beside : IsRunBeside M B N given events chip old.0 = old.1 in
    let image = laws.images M M' to at r formed beside.start beside.there old.0 beside.run in
    let first : (i : ℕ) (cell : CellView) → cell_at M i ≡ Some cell → image.start (at i) ≡ start (at i) = λ i cell live. image.starts i cell live ∙ ap (λ (s : ℕ → Sig). s i) old.2 in (
      image.image,
      record {
        start = start;
        same_flops = same;
        same_pins = pins_there laws M M' N to at r (chip 0) (old.0 0).pins (image.image 0).pins (image.same 0).pins beside.same_pins;
        there = map (renamed_event to) beside.there;
        same_events = same_events laws M M' N to at r events beside.there beside.same_events;
        run = run_from M' image.start start (map (renamed_event to) beside.there) image.image (start_there M M' to at r start image.start first) image.run;
      },
      refl,
    )

-- What is owed in the test logic.

pub realises_there : CopyLaws → RenumberedRealisesBy
realises_there laws M M' N B tdo to at r formed stay realises = record {
  some = some_there laws M M' N B tdo to at r formed stay realises;
  each = λ given events chip moment run beside t less.
      let old = realises.each given events chip (λ s. seen_moment to at (moment s)) run (beside_seen laws M M' N B to at r formed stay given events chip moment beside) t less in
      record {
        bits = λ net read. reads_bit laws M M' N to at r formed (moment t) net _ (old.bits net read);
        tdo = reads_tdo laws M M' N to at r formed (moment t) _ old.tdo;
        kept = flops_back N at (moment t).state (chip t).state stay old.kept;
      };
}

-- And alone.

stretch_seen : CopyLaws → (M M' N : NetlistView) (B : Device) (to at : ℕ → ℕ) → IsRenumbering M M' to at → IsWellFormed M → KeepsNumbers N at → (events : List ChipEvent) (chip : ℕ → ChipMoment)
    → (moment : ℕ → Moment) (first last : ℕ) → IsStretch M' B N events chip moment first last → IsStretch M B N events chip (λ t. seen_moment to at (moment t)) first last
stretch_seen laws M M' N B to at r formed stay events chip moment first last s = record {
  given = s.given;
  run = s.run;
  beside = beside_seen laws M M' N B to at r formed stay s.given events chip moment s.beside;
  ends = s.ends;
  transparent = s.transparent;
}

-- whatever number it is seen by
alone_seen : (N : NetlistView) (to at : ℕ → ℕ) → KeepsNumbers N at → (events : List ChipEvent) (chip : ℕ → ChipMoment) (moment : ℕ → Moment) (first last : ℕ) (inner : ℕ → Moment)
    → IsAlone N events chip moment first last inner → IsAlone N events chip (λ t. seen_moment to at (moment t)) first last inner
alone_seen N to at stay events chip moment first last inner is = record {
  pins = is.pins;
  run = run_from N (moment first).state (λ i. (moment first).state (at i)) (core_events events first last) inner (λ i cell live. ap (moment first).state (sym (stay i cell live))) is.run;
}

alone_back : (N : NetlistView) (to at : ℕ → ℕ) → KeepsNumbers N at → (events : List ChipEvent) (chip : ℕ → ChipMoment) (moment : ℕ → Moment) (first last : ℕ) (inner : ℕ → Moment)
    → IsAlone N events chip (λ t. seen_moment to at (moment t)) first last inner → IsAlone N events chip moment first last inner
alone_back N to at stay events chip moment first last inner is = record {
  pins = is.pins;
  run = run_from N (λ i. (moment first).state (at i)) (moment first).state (core_events events first last) inner (λ i cell live. ap (moment first).state (stay i cell live)) is.run;
}

pub alone_there : CopyLaws → RenumberedAlone
alone_there laws M M' N B to at r formed stay alone = record {
  some = λ events chip moment first last s.
      let old = alone.some events chip (λ t. seen_moment to at (moment t)) first last (stretch_seen laws M M' N B to at r formed stay events chip moment first last s) in
      (old.0, alone_back N to at stay events chip moment first last old.0 old.1);
  each = λ events chip moment first last inner s is t low high net read.
      reads_bit laws M M' N to at r formed (moment t) net _
      (alone.each events chip (λ u. seen_moment to at (moment u)) first last inner (stretch_seen laws M M' N B to at r formed stay events chip moment first last s)
      (alone_seen N to at stay events chip moment first last inner is) t low high net read);
}
