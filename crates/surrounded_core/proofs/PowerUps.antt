-- Beside each run of the chip from a power-up the parts hold the machine in reset, and the netlist reads as the chip at every moment, with
-- TDO by what is shown in the place of the bypass bit.
use Rattle.std.proofs.Common.{◌≡◌, ℕ, suc, ◌≤◌, List, [], length, refl, ap, sym, ◌∙◌, subst, Option, Some, false, arith}
use Rattle.std.specs.Option.{option_map_or}
use Rattle.std.proofs.Math.Path.{fun_ext}
use Rattle.signal_values.specs.declared.Sig.{Sig}
use Rattle.signal_values.specs.declared.PinSig.{PinSig}
use Rattle.netlist_model.specs.declared.NetId.{NetId}
use Rattle.netlist_model.specs.Lists.{NetlistView}
use Rattle.netlist_model.specs.Contained.{HasCells}
use Rattle.netlist_model.specs.Runs.{Moment, IsStart, reading_at}
use Rattle.bsdl_device.specs.declared.values.Device.{Device}
use Rattle.test_logic.specs.declared.Levels.{Levels}
use Rattle.test_logic.specs.declared.TapState.TheVariants.{TestLogicReset}
use Rattle.test_logic.specs.Machine.{Machine, TestLogic, reset, test_logic_of, code_bits, zeros}
use Rattle.tap_gates.specs.Laws.{HoldsState, ShowsState}
use Rattle.register_gates.specs.BitsLaws.{Carries}
use Rattle.instruction_gates.specs.RegisterLaws.{Follows}
use Rattle.surrounded_core.specs.Rows.{IsRowOf}
use Rattle.wrapped_chip.specs.Cells.{chip_reading}
use Rattle.wrapped_chip.specs.ChipRuns.{ChipMoment, ChipEvent, IsChipRun}
use Rattle.wrapped_chip.specs.Laws.{ChipRunOnce, SameChipMoment}
use Rattle.wrapped_chip.specs.Realises.{IsRunBeside, ReadsBit}
use Rattle.wrapped_chip.specs.Suits.{IsRead}
use Rattle.wrapped_chip.specs.Beside.{RunBesideExists}
use Rattle.surrounded_core.specs.Places.{Places, controller_nets, selection_nets, bypass_bit, code_cells, code_values, ident_bit}
use Rattle.surrounded_core.specs.Surrounds.{SurroundsBy}
use Rattle.surrounded_core.specs.Laws.{SurroundedReads, SurroundedRealises}
use Rattle.surrounded_core.specs.Open.{tdo_step, HoldsAsChip, SurroundedFollows}
use Rattle.surrounded_core.proofs.Parts.{RunLaws, HoldsMachine, Scene, logic, core_at, machine_at, Levelled, levelled_by, levelled, carried_by, carried, moded_by, state_shown, instruction_followed, bypass_held}
use Rattle.surrounded_core.proofs.Along.{seen_at, is_chip_run, tdo_begins, tdo_moves, bit_read, reads_then}

-- The parts at a start with TRST at 0.

starts_in_reset : RunLaws → (M N : NetlistView) (B : Device) (S : Places) (shown : NetId) → SurroundsBy M N B S shown → (given : ℕ → Sig) (levels : Levels) (m : Moment) → IsStart M given m → Levelled S levels m
    → levels.trst ≡ false → HoldsMachine B S (reset (test_logic_of B)) m
starts_in_reset by M N B S shown around given levels m start levelled low =
    let L : TestLogic = test_logic_of B in
    let carries : Carries S.tck S.trst levels m = carried_by S levels m levelled in
    let tap = by.tap S.controller S.controller_number S.tck S.tms S.trst in
    let controller : HoldsState S.controller TestLogicReset m
    = tap.start M given levels m around.formed around.registers.controller start (moded_by S levels m levelled) low in
    let shows = tap.shows TestLogicReset m controller in
    let ident_start : (o : Option ℕ) → S.code ≡ o → HasCells M (option_map_or (code_cells S) o []) → (code : ℕ) → o ≡ Some code → code_values S m.value code ≡ (reset L).ident
    = λ o is has code e.
    let there : HasCells M (code_cells S code) = subst (λ (x : Option ℕ). HasCells M (option_map_or (code_cells S) x [])) e has in
    (by.ident S.ident S.ident_number (controller_nets S) (selection_nets S).ident_on (selection_nets S).user_on S.tdi S.user code).start M given levels m around.formed there start carries low
    ∙ ap (λ (c : Option ℕ). zeros (code_bits c)) (sym (sym around.codes.code ∙ is ∙ e)) in
    record {
      controller = controller;
      stages = (by.instruction S.instruction S.instruction_number (controller_nets S) S.tdi S.codes M L around.formed around.registers.instruction around.codes.codes around.codes.fit).start given levels m start
          (record { carries = carries; shows = shows; data_in = levelled.tdi }) low;
      legible = (by.legible S.codes L around.codes.codes).reset (reset L) refl refl;
      bypass = (by.bypass S.bypass S.bypass_number (controller_nets S) (selection_nets S).bypass_on S.tdi).start M given levels m around.formed around.registers.bypass start carries low;
      ident = λ code e. ident_start S.code refl around.registers.ident code e;
      tdo = (by.tdo S.driver S.driver_number (controller_nets S) (selection_nets S) shown (ident_bit S) S.nearest S.tdo).start M given levels m around.formed around.registers.tdo start carries low;
      rows = λ place row there.
          let is_row : IsRowOf L place (S.gates place)
          = (by.chip.each B N (reset L) m.pins m.value place row there).kind ∙ ap (λ k. Some k) (around.rows.kinds place row there) in
          (by.rows (S.gates place) (S.row place) (S.row_number place) (selection_nets S).scan (S.next place)).start M given levels m L place around.formed
          (around.rows.cells place row there) start carries low is_row;
      long = by.lengths.in_reset L;
    }

-- A run beside the chip's.

power_up : RunLaws → (M N : NetlistView) (B : Device) (S : Places) (shown : NetId) → SurroundsBy M N B S shown → (given : ℕ → Sig) (events : List ChipEvent) (chip : ℕ → ChipMoment)
    (moment : ℕ → Moment) → IsChipRun B N given events chip → IsRunBeside M B N given events chip moment → Scene
power_up by M N B S shown around given events chip moment run beside = record {
  outer = M;
  inner = N;
  device = B;
  places = S;
  shown = shown;
  around = around;
  events = events;
  outside = chip;
  is_outside = record {
    controls = run.start.controls;
    legal = λ t event at. (run.steps t event at).legal;
    levels = λ t event at. (run.steps t event at).levels;
    pins = λ t event at. (run.steps t event at).pins;
  };
  there = beside.there;
  same_events = beside.same_events;
  moment = moment;
  same_pins = beside.same_pins;
  course = record { settled = beside.run.start.settled; steps = beside.run.steps };
  given = beside.start;
  rests = beside.run.start.flops;
  begun = reset (test_logic_of B);
  holds = starts_in_reset by M N B S shown around beside.start (chip 0).levels (moment 0) beside.run.start
      (levelled_by M N B S around (chip 0) (moment 0) beside.run.start.settled beside.same_pins) run.start.low;
}

-- the chip's run is what is seen of the course
abbrev IsSeen : Scene → Type 0
IsSeen r = (t : ℕ) → t ≤ length r.events → SameChipMoment r.inner (r.outside t) (seen_at r t)

is_seen : (by : RunLaws) → ChipRunOnce → (M N : NetlistView) (B : Device) (S : Places) (shown : NetId) (around : SurroundsBy M N B S shown) (given : ℕ → Sig) (events : List ChipEvent)
    (chip : ℕ → ChipMoment) (moment : ℕ → Moment) (run : IsChipRun B N given events chip) (beside : IsRunBeside M B N given events chip moment)
    → IsSeen (power_up by M N B S shown around given events chip moment run beside)
unfolding power_up
is_seen by once M N B S shown around given events chip moment run beside = λ t below.
    let r : Scene = power_up by M N B S shown around given events chip moment run beside in
    let seen = is_chip_run by r in
    let whole : IsChipRun B N beside.start events (seen_at r) = record {
      start = record { low = run.start.low; machine = refl; controls = run.start.controls; settled = seen.settled; flops = seen.flops };
      steps = seen.steps;
    } in
    once B N given beside.start events chip (seen_at r) around.core_formed run whole refl (λ net. refl) (λ i cell kind live is. sym (beside.same_flops i cell kind live is)) t below

reading_same : (B : Device) (N : NetlistView) (m m' : Machine) (pins : ℕ → PinSig) (v v' : ℕ → Sig) (net : ℕ) → m ≡ m' → ((n : ℕ) → v n ≡ v' n)
    → chip_reading B N m pins v net ≡ chip_reading B N m' pins v' net
reading_same B N m m' pins v v' net e f = ap (λ x. chip_reading B N x pins v net) e ∙ ap (λ (x : ℕ → Sig). chip_reading B N m' pins x net) (fun_ext f)

reads_bit : RunLaws → (r : Scene) → IsSeen r → (t : ℕ) → t ≤ length r.events → (net : ℕ) → IsRead r.inner net
    → ReadsBit r.outer r.inner (r.moment t) net (chip_reading r.device r.inner (r.outside t).machine (r.outside t).pins (r.outside t).value net)
reads_bit by r is t below net read =
    let bit = bit_read by r t below net read in
    let same = is t below in record {
      there = bit.there;
      same = bit.same;
      reads = bit.reads
          ∙ sym (reading_same r.device r.inner (r.outside t).machine (machine_at r t) (r.outside t).pins (r.outside t).value (core_at r t) net same.machine same.value);
    }

holds_as_chip : RunLaws → (r : Scene) → IsSeen r → (t : ℕ) → t ≤ length r.events → HoldsAsChip r.outer r.device r.inner r.places (r.moment t) (r.outside t)
holds_as_chip by r is t below =
    let S = r.places in
    let m : Moment = r.moment t in
    let same = is t below in
    let back : machine_at r t ≡ (r.outside t).machine = sym same.machine in record {
      bits = λ net read. reads_bit by r is t below net read;
      kept = λ i cell kind live flop. sym (same.flops i cell kind live flop);
      core = λ net. sym (same.value net);
      levels = carried r t below;
      data_in = (levelled r t below).tdi;
      shows = subst (λ (x : Machine). ShowsState (controller_nets S) x.state m) back (state_shown by r t below);
      instruction = subst (λ (x : Machine). Follows S.instruction (controller_nets S) S.tdi S.codes (logic r) x m) back (instruction_followed by r t below);
      bypass = bypass_held by r t below ∙ ap (λ (x : Machine). x.bypass) back;
    }

pub follows_chip : RunLaws → ChipRunOnce → SurroundedFollows
unfolding power_up
follows_chip by once M N B S shown around given events chip moment run beside =
    let r : Scene = power_up by M N B S shown around given events chip moment run beside in
    let is : IsSeen r = is_seen by once M N B S shown around given events chip moment run beside in record {
      holds = λ t below. holds_as_chip by r is t below;
      tap = around.ports.tdo;
      off = tdo_begins by r;
      tdo = λ t below.
          tdo_moves by r t below
          ∙ ap (λ (x : Machine). tdo_step (logic r) (chip t).levels (chip (suc t)).levels x ((moment t).value shown.0) (reading_at M (moment t) S.tdo.0)) (sym (is t (omega arith)).machine);
    }

pub reads_as_chip : RunLaws → ChipRunOnce → SurroundedReads
unfolding power_up
reads_as_chip by once M N B S around given events chip moment run beside t below =
    let r : Scene = power_up by M N B S (bypass_bit S) around given events chip moment run beside in
    let is : IsSeen r = is_seen by once M N B S (bypass_bit S) around given events chip moment run beside in
    let same = is t below in
    let tdo = (reads_then by r (λ u h. bypass_held by r u h) t below).tdo in record {
      bits = λ net read. reads_bit by r is t below net read;
      tdo = record { there = tdo.there; tap = tdo.tap; reads = tdo.reads ∙ ap (λ (m : Machine). m.tdo) (sym same.machine) };
      kept = λ i cell kind live flop. sym (same.flops i cell kind live flop);
    }

pub realises : SurroundedReads → RunBesideExists → SurroundedRealises
realises reads exists M N B S around controls = record {
  some = λ given start events chip run same. exists M N B around.formed around.pins controls given start events chip run same;
  each = λ given events chip moment run beside t below. reads M N B S around given events chip moment run beside t below;
}
