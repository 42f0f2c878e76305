-- A netlist finds home under other numbers as under its own.
use Rattle.std.proofs.Common.{◌≡◌, ℕ, suc, ◌+◌, List, drop, map, refl, sym, ap, ◌∙◌, subst, Option, Some, None}
use Rattle.signal_values.specs.declared.Sig.{Sig}
use Rattle.cell_library.specs.declared.listed.ListedCell.{ListedCell}
use Rattle.cell_library.specs.Flops.{flop_start}
use Rattle.cell_library.specs.Gates.{flop_of}
use Rattle.netlist_model.specs.Lists.{CellView, NetlistView, cell_at}
use Rattle.netlist_model.specs.Settled.{feed_values}
use Rattle.netlist_model.specs.Formed.{IsWellFormed}
use Rattle.netlist_model.specs.Runs.{Moment, PinEvent, IsRun}
use Rattle.netlist_model.specs.Renumbered.{IsRenumbering, renamed_event, seen_moment}
use Rattle.test_logic.specs.bsdl_device.declared.values.Device.{Device}
use Rattle.test_logic.specs.Machine.{Machine}
use Rattle.wrapped_chip.specs.ChipRuns.{ChipMoment, ChipEvent}
use Rattle.wrapped_chip.specs.Home.{AreBits, IsRunFromBits, IsChipRunFrom}
use Rattle.wrapped_chip.specs.CopiesLaws.{HasNumbers, KeepsNumbers, RenumberedFindsHomeBy}
use Rattle.wrapped_chip.proofs.Pins.{CopyLaws, same_events, events_back, reads_bit, reads_tdo}
use Rattle.wrapped_chip.proofs.CopiesBeside.{pins_seen, flops_back}

-- a cell that the chip hasn't is none of the chip's under its new number
still_none : (M M' N : NetlistView) (to at : ℕ → ℕ) → IsRenumbering M M' to at → HasNumbers M N → KeepsNumbers N at → (i : ℕ) (cell : CellView) → cell_at M i ≡ Some cell
    → cell_at N i ≡ None → cell_at N (at i) ≡ None
still_none M M' N to at r has stay i cell live none = by_place (cell_at N (at i)) refl
  where
    by_place : (o : Option CellView) → cell_at N (at i) ≡ o → cell_at N (at i) ≡ None
    by_place None e = e
    by_place (Some old) e =
        let there = has (at i) old e in
        let stays : at (at i) ≡ at i = stay (at i) old e in
        let same : at i ≡ i = sym (r.there.numbers (at i) there.0 there.1) ∙ ap r.from stays ∙ r.there.numbers i cell live in
        let bad : Some old ≡ None = sym e ∙ ap (cell_at N) same ∙ none in absurd (cc)

bits_seen : (M M' N : NetlistView) (to at : ℕ → ℕ) → IsRenumbering M M' to at → HasNumbers M N → KeepsNumbers N at → (start : ℕ → Sig) → AreBits M' N start
    → AreBits M N (λ i. start (at i))
bits_seen M M' N to at r has stay start bits i cell kind live flop none =
    let nested = r.there.cells i cell live in
    bits (at i) _ kind nested.live (ap (λ (l : List ListedCell). flop_of l cell.kind) r.there.library ∙ flop) (still_none M M' N to at r has stay i cell live none)

-- A run of M' is one of M.
from_seen : CopyLaws → (M M' N : NetlistView) (to at : ℕ → ℕ) → IsRenumbering M M' to at → IsWellFormed M → HasNumbers M N → KeepsNumbers N at → (events : List ChipEvent)
    → (outside : ℕ → ChipMoment) (moment : ℕ → Moment) → IsRunFromBits M' N events outside moment → IsRunFromBits M N events outside (λ t. seen_moment to at (moment t))
from_seen laws M M' N to at r formed has stay events outside moment from = record {
  start = λ i. from.start (at i);
  bits = bits_seen M M' N to at r has stay from.start from.bits;
  same_pins = pins_seen laws M M' N to at r (outside 0) (moment 0).pins from.same_pins;
  there = map (renamed_event r.back) from.there;
  same_events = same_events laws M' M N r.back r.from (laws.turns M M' to at r) events from.there from.same_events;
  run = laws.runs M M' to at r formed from.start (map (renamed_event r.back) from.there) moment
      (subst (λ (list : List PinEvent). IsRun M' from.start list moment) (sym (events_back to r.back r.here.nets from.there)) from.run);
}

-- a run of the chip from other values of its flip-flops, where they are the same at each of its cells
chip_from : (begun : Machine) (B : Device) (N : NetlistView) (given other : ℕ → Sig) (events : List ChipEvent) (chip : ℕ → ChipMoment)
    → ((i : ℕ) (cell : CellView) → cell_at N i ≡ Some cell → given i ≡ other i) → IsChipRunFrom begun B N given events chip → IsChipRunFrom begun B N other events chip
chip_from begun B N given other events chip same run = record {
  machine = run.machine;
  controls = run.controls;
  settled = run.settled;
  flops = record {
    each = λ i cell kind live flop. run.flops.each i cell kind live flop ∙ ap (flop_start kind (feed_values (chip 0).value cell.feeds)) (same i cell live);
  };
  steps = run.steps;
}

pub home_there : CopyLaws → RenumberedFindsHomeBy
home_there laws M M' N B lengths tdo to at r formed has stay finds events outside moment is from t within falls =
    let home : ℕ = suc t in
    let old = finds events outside (λ u. seen_moment to at (moment u)) is (from_seen laws M M' N to at r formed has stay events outside moment from) t within falls in record {
      machine = old.machine;
      is_home = old.is_home;
      held = old.held;
      long = old.long;
      chip = old.chip;
      run = chip_from old.machine B N (λ i. (moment home).state (at i)) (moment home).state (drop home events) old.chip
          (λ i cell live. ap (moment home).state (stay i cell live)) old.run;
      levels = old.levels;
      pins = old.pins;
      reads = λ u h.
          let reads = old.reads u h in
          record {
            bits = λ net read. reads_bit laws M M' N to at r formed (moment (home + u)) net _ (reads.bits net read);
            tdo = reads_tdo laws M M' N to at r formed (moment (home + u)) _ reads.tdo;
            kept = flops_back N at (moment (home + u)).state (old.chip u).state stay reads.kept;
          };
    }
