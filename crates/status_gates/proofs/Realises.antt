-- Each run beside the chip's reads as the chip, and TDO as the test logic with the registers.
use Rattle.std.proofs.Common.{◌≡◌, ℕ, ◌≤◌, false, List, [], ◌∷◌, map, length, refl, ap, ◌∙◌, arith}
use Rattle.std.specs.Prelude.{All}
use Rattle.std.proofs.lemmas.List.Elements.{All-head, All-tail}
use Rattle.signal_values.specs.declared.Sig.{Sig}
use Rattle.signal_values.specs.Values.{bit}
use Rattle.netlist_model.specs.declared.NetId.{NetId}
use Rattle.netlist_model.specs.Lists.{NetlistView}
use Rattle.netlist_model.specs.Formed.{IsWellFormed}
use Rattle.netlist_model.specs.Runs.{Moment, IsStart, reading_at}
use Rattle.netlist_model.specs.LawsRuns.{RunHasMoments}
use Rattle.bsdl_device.specs.declared.values.Device.{Device}
use Rattle.test_logic.specs.declared.Levels.{Levels}
use Rattle.test_logic.specs.Machine.{reset, zeros, test_logic_of}
use Rattle.instruction_gates.specs.Copies.{row_values}
use Rattle.instruction_gates.specs.Matches.{AreKnown}
use Rattle.instruction_gates.specs.Steps.{InstructionsStayLegible}
use Rattle.register_gates.specs.BitsLaws.{Carries}
use Rattle.register_gates.specs.Laws.{DataFollows}
use Rattle.wrapped_chip.specs.Beside.{RunBesideExists}
use Rattle.wrapped_chip.specs.ChipRuns.{ChipEvent, ChipMoment, IsChipRun}
use Rattle.wrapped_chip.specs.Realises.{IsRunBeside}
use Rattle.wrapped_chip.proofs.Known.{from_reset}
use Rattle.surrounded_core.specs.Places.{Places, controller_nets, selection_nets}
use Rattle.surrounded_core.specs.Surrounds.{SurroundsBy}
use Rattle.surrounded_core.specs.Open.{SurroundedFollows}
use Rattle.status_fitting.specs.declared.fitted.FittedRegister.{FittedRegister}
use Rattle.status_gates.specs.Wires.{net_feeds}
use Rattle.status_gates.specs.Extended.{StatusRegister, HeldRegister, is_latched, in_reset, tdo_from, tdo_at}
use Rattle.status_gates.specs.Placed.{Placed, IsPlaced, IsFree, contents, held_at, shown_by}
use Rattle.status_gates.specs.RunsLaws.{Beside, ExtendedTdoFollows}
use Rattle.status_gates.specs.PartsLaws.{status_of, Stands, AllStand}
use Rattle.status_gates.specs.Stands.{FitsBeside, shared_in, behind_inverses, last_shown, HoldsRegisters}
use Rattle.status_gates.specs.SurroundedLaws.{SurroundedStatusRealises}
use Rattle.status_gates.proofs.Each.{each_so, both_so, at_each}
use Rattle.status_gates.proofs.Known.{latched_known}
use Rattle.status_gates.proofs.RunsLists.{blank}
use Rattle.status_gates.proofs.Stands.{StandLaws, placed_behind, own_registers, placed_so, all_stand, tells_latched, is_placed}

-- a surrounded core with registers, whose moments follow a run of the chip with a known opcode latched
pub record Scene (M N : NetlistView) (B : Device) (S : Places) (shown : NetId) (first number : ℕ) (registers : List FittedRegister) (events : List ChipEvent) (chip : ℕ → ChipMoment)
    (moment : ℕ → Moment) : Type 0 where
  pub beside : Beside M N B S shown events chip moment
  pub holds : HoldsRegisters M S shown first number registers
  pub fit : All (λ (r : FittedRegister). FitsBeside N B S (status_of r)) registers
  pub known : (t : ℕ) → t ≤ length events → AreKnown (chip t).machine.latched

stand_at : StandLaws → (M N : NetlistView) (B : Device) (S : Places) (shown : NetId) (first number : ℕ) (registers : List FittedRegister) (events : List ChipEvent) (chip : ℕ → ChipMoment)
    (moment : ℕ → Moment) → Scene M N B S shown first number registers events chip moment → (t : ℕ) → t ≤ length events
    → AllStand M S (shared_in S first) (moment t) (last_shown S first registers) (placed_behind S first number registers)
stand_at laws M N B S shown first number registers events chip moment s t low =
    all_stand laws M N B S shown first number registers s.beside.around s.holds s.fit (moment t) (chip t).machine.latched (s.beside.settled t low)
    (s.beside.follows.holds t low).instruction.opcode (s.known t low)

all_placed : StandLaws → (M N : NetlistView) (B : Device) (S : Places) (shown : NetId) (first number : ℕ) (registers : List FittedRegister) (events : List ChipEvent) (chip : ℕ → ChipMoment)
    (moment : ℕ → Moment) → Scene M N B S shown first number registers events chip moment → All (IsPlaced M N S) (placed_behind S first number registers)
all_placed laws M N B S shown first number registers events chip moment s =
    both_so (Stands M (shared_in S first) (moment 0)) (λ (p : Placed). FitsBeside N B S p.register) (IsPlaced M N S)
    (λ p stands fitting. is_placed M N B S first (moment 0) p stands fitting) (placed_behind S first number registers)
    (stand_at laws M N B S shown first number registers events chip moment s 0 (omega arith)).each
    (placed_so (FitsBeside N B S) (behind_inverses S first) (behind_inverses S number) registers s.fit)

pub record ReadingLaws : Type 0 where
  pub tdo : ExtendedTdoFollows
  pub stand : StandLaws

pub tdo_reads : ReadingLaws → (M N : NetlistView) (B : Device) (S : Places) (shown : NetId) (first number : ℕ) (registers : List FittedRegister) (events : List ChipEvent) (chip : ℕ → ChipMoment)
    (moment : ℕ → Moment) → Scene M N B S shown first number registers events chip moment → (t : ℕ) → t ≤ length events
    → reading_at M (moment t) S.tdo.0 ≡ tdo_from (map (held_at (moment 0)) (placed_behind S first number registers)) B chip t
tdo_reads laws M N B S shown first number registers events chip moment s =
    laws.tdo M N B S shown events chip moment s.beside places (all_placed laws.stand M N B S shown first number registers events chip moment s) free on mux
  where
    places : List Placed
    places = placed_behind S first number registers

    opcode : (u : ℕ) → u ≤ length events → row_values (moment u).value (selection_nets S).opcode.0 S.codes.length ≡ (chip u).machine.latched
    opcode u low = (s.beside.follows.holds u low).instruction.opcode

    stand : (u : ℕ) → u ≤ length events → AllStand M S (shared_in S first) (moment u) (last_shown S first registers) places
    stand u low = stand_at laws.stand M N B S shown first number registers events chip moment s u low

    fits : All (λ (p : Placed). FitsBeside N B S p.register) places
    fits = placed_so (FitsBeside N B S) (behind_inverses S first) (behind_inverses S number) registers s.fit

    free : All (λ (p : Placed). IsFree B p.register) places
    free = each_so (λ (p : Placed). FitsBeside N B S p.register) (λ (p : Placed). IsFree B p.register) (λ p fitting. fitting.free) places fits

    on : All (λ (p : Placed). (u : ℕ) → u ≤ length events → (moment u).value p.on.0 ≡ bit (is_latched p.register (chip u).machine)) places
    on =
        at_each (length events) (λ (u : ℕ) (p : Placed). (moment u).value p.on.0 ≡ bit (is_latched p.register (chip u).machine)) places
        (λ u low. both_so (Stands M (shared_in S first) (moment u)) (λ (p : Placed). FitsBeside N B S p.register)
        (λ (p : Placed). (moment u).value p.on.0 ≡ bit (is_latched p.register (chip u).machine))
        (λ p stands fitting. tells_latched M N B S first (moment u) (chip u).machine p stands fitting (opcode u low)) places (stand u low).each fits)

    mux : (u : ℕ) → u ≤ length events → (moment u).value shown.0 ≡ shown_by S places (moment u)
    mux u low = s.holds.shows (moment u) (s.beside.settled u low) ∙ (stand u low).shown_is

-- From reset.

pub record StatusLaws : Type 0 where
  pub follows : SurroundedFollows
  pub reading : ReadingLaws
  pub gates : DataFollows
  pub legible : InstructionsStayLegible
  pub moments : RunHasMoments
  pub exists : RunBesideExists

from_power_up : StatusLaws → (M N : NetlistView) (B : Device) (S : Places) (shown : NetId) (first number : ℕ) (registers : List FittedRegister) → SurroundsBy M N B S shown
    → HoldsRegisters M S shown first number registers → All (λ (r : FittedRegister). FitsBeside N B S (status_of r)) registers
    → (given : ℕ → Sig) (events : List ChipEvent) (chip : ℕ → ChipMoment) (moment : ℕ → Moment) → IsChipRun B N given events chip → IsRunBeside M B N given events chip moment
    → Scene M N B S shown first number registers events chip moment
from_power_up laws M N B S shown first number registers around holds fit given events chip moment run beside =
    let count : length beside.there ≡ length events = beside.same_events.count in
    let at = λ (t : ℕ) (below : t ≤ length events). laws.moments M beside.start beside.there moment beside.run t (omega (arith, count, below)) in record {
      beside = record {
        around = around;
        follows = laws.follows M N B S shown around given events chip moment run beside;
        settled = λ t below. (at t below).settled;
        steps = λ t below. let next = (at t (omega (arith, below))).step (omega (arith, count, below)) in (next.0, next.2);
      };
      holds = holds;
      fit = fit;
      known = latched_known laws.legible (reset (test_logic_of B)) B N S.codes given events chip (from_reset B N given events chip run) refl refl around.codes.codes;
    }

-- each register begins with 0
begins_reset : DataFollows → (M N : NetlistView) (S : Places) (given : ℕ → Sig) (levels : Levels) (m : Moment) → IsWellFormed M → IsStart M given m → Carries S.tck S.trst levels m
    → levels.trst ≡ false → (ps : List Placed) → All (IsPlaced M N S) ps → map (held_at m) ps ≡ map in_reset (map (λ (p : Placed). p.register) ps)
begins_reset gates M N S given levels m formed start carries low [] all = refl
begins_reset gates M N S given levels m formed start carries low (p ∷ ps) all =
    let laws = gates p.first p.number (controller_nets S) p.on S.tdi (net_feeds p.register.wires) in
    let first : contents m p ≡ zeros p.register.wires
    = laws.start M given levels m formed (All-head (IsPlaced M N S) p ps all).cells start carries low ∙ blank p.register in
    ap (λ (xs : List Sig). record { register = p.register; held = xs } ∷ map (held_at m) ps) first
    ∙ ap (λ (hs : List HeldRegister). in_reset p.register ∷ hs) (begins_reset gates M N S given levels m formed start carries low ps (All-tail (IsPlaced M N S) p ps all))

tdo_from_reset : StatusLaws → (M N : NetlistView) (B : Device) (S : Places) (shown : NetId) (first number : ℕ) (registers : List FittedRegister) (given : ℕ → Sig) (events : List ChipEvent)
    (chip : ℕ → ChipMoment) (moment : ℕ → Moment) → Scene M N B S shown first number registers events chip moment → IsChipRun B N given events chip
    → IsRunBeside M B N given events chip moment → (t : ℕ) → t ≤ length events → reading_at M (moment t) S.tdo.0 ≡ tdo_at (map status_of registers) B chip t
tdo_from_reset laws M N B S shown first number registers given events chip moment s run beside t below =
    let places : List Placed = placed_behind S first number registers in
    tdo_reads laws.reading M N B S shown first number registers events chip moment s t below
    ∙ ap (λ (hs : List HeldRegister). tdo_from hs B chip t)
    (begins_reset laws.gates M N S beside.start (chip 0).levels (moment 0) s.beside.around.formed beside.run.start (s.beside.follows.holds 0 (omega arith)).levels run.start.low places
    (all_placed laws.reading.stand M N B S shown first number registers events chip moment s)
    ∙ ap (λ (rs : List StatusRegister). map in_reset rs) (own_registers (behind_inverses S first) (behind_inverses S number) registers))

pub realises_status : StatusLaws → SurroundedStatusRealises
realises_status laws M N B S shown first number registers around holds fit controls = record {
  some = λ given start events chip run same. laws.exists M N B around.formed around.pins controls given start events chip run same;
  each = λ given events chip moment run beside t below.
      let s : Scene M N B S shown first number registers events chip moment
      = from_power_up laws M N B S shown first number registers around holds fit given events chip moment run beside in
      let held = s.beside.follows.holds t below in
      record {
        bits = held.bits;
        tdo = record { there = S.tdo.0; tap = s.beside.follows.tap; reads = tdo_from_reset laws M N B S shown first number registers given events chip moment s run beside t below };
        kept = held.kept;
      };
}
