-- From whatever its test logic and the registers hold such a netlist finds home.
use Rattle.std.proofs.Common.{◌≡◌, ℕ, suc, ◌+◌, ◌-◌, ◌≤◌, List, [], ◌∷◌, map, drop, length, refl, ap, ◌∙◌, subst, arith}
use Rattle.std.specs.Prelude.{All}
use Rattle.std.proofs.lemmas.List.{length-drop}
use Rattle.signal_values.specs.declared.Sig.{Sig}
use Rattle.netlist_model.specs.declared.Feed.{Feed}
use Rattle.netlist_model.specs.declared.NetId.{NetId}
use Rattle.netlist_model.specs.Lists.{NetlistView}
use Rattle.netlist_model.specs.Runs.{Moment, IsStep}
use Rattle.netlist_model.specs.LawsRuns.{RunHasMoments}
use Rattle.bsdl_device.specs.declared.values.Device.{Device}
use Rattle.instruction_gates.specs.Steps.{InstructionsStayLegible}
use Rattle.register_gates.specs.Registers.{data_values}
use Rattle.wrapped_chip.specs.ChipRuns.{ChipEvent, ChipMoment}
use Rattle.wrapped_chip.specs.Home.{IsRunFromBits}
use Rattle.surrounded_core.specs.Places.{Places}
use Rattle.surrounded_core.specs.Surrounds.{SurroundsBy}
use Rattle.surrounded_core.specs.Home.{FollowsFromHome, SurroundedFollowsFromHome}
use Rattle.status_fitting.specs.declared.fitted.FittedRegister.{FittedRegister}
use Rattle.status_gates.specs.Wires.{net_feeds}
use Rattle.status_gates.specs.Extended.{HeldRegister, tdo_from}
use Rattle.status_gates.specs.Placed.{Placed, contents, held_at}
use Rattle.status_gates.specs.PartsLaws.{status_of, placed_at, placed_in}
use Rattle.status_gates.specs.Registers.{registers_size}
use Rattle.status_gates.specs.Realises.{with_contents, register_lengths}
use Rattle.status_gates.specs.Stands.{FitsBeside, behind_inverses, HoldsRegisters}
use Rattle.status_gates.specs.SurroundedLaws.{SurroundedStatusFindsHome}
use Rattle.status_gates.proofs.Feeds.{net_feeds_length}
use Rattle.status_gates.proofs.Known.{latched_known}
use Rattle.status_gates.proofs.Realises.{Scene, ReadingLaws, tdo_reads}
use Rattle.status_gates.proofs.Stands.{placed_behind}

pub record HomeLaws : Type 0 where
  pub home : SurroundedFollowsFromHome
  pub reading : ReadingLaws
  pub legible : InstructionsStayLegible
  pub moments : RunHasMoments

-- What the registers hold.

data_long : (value : ℕ → Sig) (first : ℕ) (captured : List Feed) → length (data_values value first captured) ≡ length captured
data_long value first [] = refl
data_long value first (x ∷ xs) = ap suc (data_long value first xs)

contents_long : (m : Moment) (first number : ℕ) (rs : List FittedRegister) → map (λ (xs : List Sig). length xs) (map (contents m) (placed_in first number rs)) ≡ register_lengths rs
contents_long m first number [] = refl
contents_long m first number (r ∷ rs) =
    let p : Placed = placed_at (first + registers_size rs) (number + registers_size rs) r in
    let long : length (contents m p) ≡ length r.nets = data_long m.value p.first (net_feeds r.nets) ∙ net_feeds_length r.nets in
    ap (λ (n : ℕ). n ∷ map (λ (xs : List Sig). length xs) (map (contents m) (placed_in first number rs))) long
    ∙ ap (λ (ns : List ℕ). length r.nets ∷ ns) (contents_long m first number rs)

held_there : (m : Moment) (first number : ℕ) (rs : List FittedRegister) → map (held_at m) (placed_in first number rs) ≡ with_contents rs (map (contents m) (placed_in first number rs))
held_there m first number [] = refl
held_there m first number (r ∷ rs) =
    ap (λ (hs : List HeldRegister). held_at m (placed_at (first + registers_size rs) (number + registers_size rs) r) ∷ hs) (held_there m first number rs)

-- The moments from home on.

scene_from : HomeLaws → (M N : NetlistView) (B : Device) (S : Places) (shown : NetId) (first number : ℕ) (registers : List FittedRegister) → SurroundsBy M N B S shown
    → HoldsRegisters M S shown first number registers → All (λ (r : FittedRegister). FitsBeside N B S (status_of r)) registers
    → (events : List ChipEvent) (outside : ℕ → ChipMoment) (moment : ℕ → Moment) (home : ℕ) → home ≤ length events → IsRunFromBits M N events outside moment
    → (from : FollowsFromHome M N B S shown events outside moment home) → Scene M N B S shown first number registers (drop home events) from.chip (λ t. moment (home + t))
scene_from laws M N B S shown first number registers around holds fit events outside moment home within run from =
    let count : length run.there ≡ length events = run.same_events.count in
    let left : length (drop home events) ≡ length events - home = length-drop home events in
    let at = λ (t : ℕ) (below : t ≤ length (drop home events)). laws.moments M run.start run.there moment run.run (home + t) (omega (arith, count, left, within, below)) in record {
      beside = record {
        around = around;
        follows = from.follows;
        settled = λ t below. (at t below).settled;
        steps = λ t below.
            let next = (at t (omega (arith, below))).step (omega (arith, count, left, within, below)) in
            let e : suc (home + t) ≡ home + suc t = omega arith in
            (next.0, subst (λ (u : ℕ). IsStep M next.0 (moment (home + t)) (moment u)) e next.2);
      };
      holds = holds;
      fit = fit;
      known = latched_known laws.legible from.machine B N S.codes (moment home).state (drop home events) from.chip from.run from.is_home.state from.is_home.latched around.codes.codes;
    }

pub finds_home : HomeLaws → SurroundedStatusFindsHome
finds_home laws M N B S shown first number registers around holds fit added events outside moment is run t within falls =
    let home : ℕ = suc t in
    let from : FollowsFromHome M N B S shown events outside moment home = laws.home M N B S shown around added events outside moment is run t within falls in
    let s : Scene M N B S shown first number registers (drop home events) from.chip (λ u. moment (home + u))
    = scene_from laws M N B S shown first number registers around holds fit events outside moment home within run from in
    let begun : Moment = moment (home + 0) in
    let here : ℕ = behind_inverses S first in
    let there : ℕ = behind_inverses S number in record {
      machine = from.machine;
      is_home = from.is_home;
      held = map (contents begun) (placed_behind S first number registers);
      long = contents_long begun here there registers;
      chip = from.chip;
      run = from.run;
      levels = from.levels;
      pins = from.pins;
      reads = λ u below.
          let now = from.follows.holds u below in record {
            bits = now.bits;
            tdo = record {
              there = S.tdo.0;
              tap = from.follows.tap;
              reads = tdo_reads laws.reading M N B S shown first number registers (drop home events) from.chip (λ v. moment (home + v)) s u below
                  ∙ ap (λ (hs : List HeldRegister). tdo_from hs B from.chip u) (held_there begun here there registers);
            };
            kept = now.kept;
          };
    }
