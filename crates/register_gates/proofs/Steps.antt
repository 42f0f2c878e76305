-- What each register of the test logic holds after a step; and an induction along a run.
use Rattle.std.proofs.Common.{◌≡◌, ℕ, zero, suc, ◌≤◌, Bool, true, false, List, length, refl, ap, ◌∙◌, arith}
use Rattle.std.specs.Prelude.{Option, Some, None, if◌then◌else◌}
use Rattle.signal_values.specs.declared.Sig.{Sig}
use Rattle.signal_values.specs.Values.{bit}
use Rattle.cell_library.specs.declared.Edge.{Edge}
use Rattle.cell_library.specs.declared.Edge.TheVariants.{Rise, Fall}
use Rattle.netlist_model.specs.Lists.{NetlistView}
use Rattle.netlist_model.specs.Settled.{IsSettled}
use Rattle.netlist_model.specs.Runs.{Moment, PinEvent, IsStep, IsRun}
use Rattle.netlist_model.specs.LawsRuns.{RunHasMoments}
use Rattle.tap_gates.specs.test_logic.declared.Levels.{Levels}
use Rattle.tap_gates.specs.test_logic.Machine.{TestLogic, Machine, reset, rise, fall, edge_of, clocked, step_under, machine_step}
use Rattle.register_gates.specs.BitsLaws.{on_edge, bit_after}
use Rattle.register_gates.specs.Steps.{StepsByRegister}

clocked_is : (L : TestLogic) (edge : Option Edge) (tms : Bool) (tdi : Sig) (captured : List Sig) (m : Machine)
    → clocked L edge tms tdi captured m ≡ on_edge edge (rise L tms tdi captured m) (fall L m) m
clocked_is L None tms tdi captured m = refl
clocked_is L (Some Rise) tms tdi captured m = refl
clocked_is L (Some Fall) tms tdi captured m = refl

under_is : (reset_after : Bool) (L : TestLogic) (before after : Levels) (captured : List Sig) (m : Machine)
    → step_under reset_after L before after captured m
    ≡ (if reset_after then on_edge (edge_of before.tck after.tck) (rise L before.tms (bit before.tdi) captured m) (fall L m) m else reset L)
under_is false L before after captured m = refl
under_is true L before after captured m = clocked_is L (edge_of before.tck after.tck) before.tms (bit before.tdi) captured m

-- a part of what is held after an event
part_of : {A B : Type 0} (f : A → B) (edge : Option Edge) (c : Bool) (r x y k : A)
    → f (if c then on_edge edge x y k else r) ≡ (if c then on_edge edge (f x) (f y) (f k) else f r)
part_of f edge false r x y k = refl
part_of f None true r x y k = refl
part_of f (Some Rise) true r x y k = refl
part_of f (Some Fall) true r x y k = refl

field : {B : Type 0} (f : Machine → B) (L : TestLogic) (before after : Levels) (captured : List Sig) (m : Machine)
    → f (machine_step L before after captured m) ≡ bit_after before after (f (reset L)) (f (rise L before.tms (bit before.tdi) captured m)) (f (fall L m)) (f m)
field f L before after captured m =
    ap f (under_is after.trst L before after captured m)
    ∙ part_of f (edge_of before.tck after.tck) after.trst (reset L) (rise L before.tms (bit before.tdi) captured m) (fall L m) m

pub by_register : StepsByRegister
by_register = λ L before after captured m. record {
  shift = field (λ (x : Machine). x.shift) L before after captured m;
  latched = field (λ (x : Machine). x.latched) L before after captured m;
  bypass = field (λ (x : Machine). x.bypass) L before after captured m;
  ident = field (λ (x : Machine). x.ident) L before after captured m;
  tdo = field (λ (x : Machine). x.tdo) L before after captured m;
}

-- what holds at the start and is kept by each step holds all along a run
pub all_along : RunHasMoments → (N : NetlistView) (given : ℕ → Sig) (events : List PinEvent) (moment : ℕ → Moment) → IsRun N given events moment
    → (P : ℕ → Type 0) → P 0
    → ((t : ℕ) → suc t ≤ length events → (event : PinEvent) → IsSettled N (moment t).pins (moment t).state (moment t).value → IsStep N event (moment t) (moment (suc t)) → P t → P (suc t))
    → (t : ℕ) → t ≤ length events → P t
all_along moments N given events moment run P base more zero below = base
all_along moments N given events moment run P base more (suc t) below =
    let before : t ≤ length events = omega arith in
    let now = moments N given events moment run t before in
    let event = now.step below in
    more t below event.0 now.settled event.2 (all_along moments N given events moment run P base more t before)
