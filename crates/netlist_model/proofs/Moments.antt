-- What holds at each moment of a run.
use Rattle.std.proofs.Common.{◌≡◌, ℕ, zero, suc, ◌≤◌, ◌⊎◌, true, false, List, length, refl, ap, sym, ◌∙◌, inl, inr, arith}
use Rattle.std.specs.Prelude.{Some, slice_get}
use Rattle.std.proofs.lemmas.Bool.Decides.{eqb_tells}
use Rattle.cell_library.proofs.list_laws.Lists.{slice_get_there}
use Rattle.cell_library.specs.signal_values.declared.Sig.{Sig}
use Rattle.cell_library.specs.signal_values.declared.PinSig.{PinSig}
use Rattle.cell_library.specs.signal_values.Values.{see}
use Rattle.cell_library.specs.Laws.{IsKnown}
use Rattle.netlist_model.specs.Lists.{NetlistView, direction}
use Rattle.netlist_model.specs.Settled.{follows_pin, pin_rule, IsSettled}
use Rattle.netlist_model.specs.Cones.{IsControlPort}
use Rattle.netlist_model.specs.Formed.{IsWellFormed}
use Rattle.netlist_model.specs.Runs.{Moment, PinEvent, IsKnownPin, IsStep, IsRun, pins_after}
use Rattle.netlist_model.specs.Controls.{ControlsKnown}
use Rattle.netlist_model.proofs.Pins.{pin_rule-input}
use Rattle.netlist_model.specs.Settle.{SamePins}
use Rattle.netlist_model.specs.LawsRuns.{SameControlNets, RunHasMoments}
use Rattle.netlist_model.proofs.Controls.{controls_known_under, controls_once}

pub see_known : (p : PinSig) → IsKnownPin p → IsKnown (see p)
see_known p (inl e) = record { known = false; same = ap see e }
see_known p (inr e) = record { known = true; same = ap see e }

-- the event that leads to the next moment
pub event_at : (events : List PinEvent) (t : ℕ) → suc t ≤ length events → (event : PinEvent) × (slice_get events t ≡ Some event)
event_at events t h = slice_get_there events t (omega arith)

-- the pin of an event has its value, and each other pin stays
pub pins_after-cases : (pins : ℕ → PinSig) (event : PinEvent) (net : ℕ)
    → ((net ≡ event.net) × (pins_after pins event net ≡ event.value)) ⊎ (pins_after pins event net ≡ pins net)
pins_after-cases pins event net =
    elim (eqb_tells net event.net) [
      | inl e ↦ inl (e.1, rw e.0 refl)
      | inr e ↦ inr (rw e.0 refl)
    ]

step_known : (N : NetlistView) (event : PinEvent) (m m' : Moment) → IsStep N event m m' → (net : ℕ) → IsControlPort N net → IsKnownPin (m.pins net) → IsKnownPin (m'.pins net)
step_known N event m m' step net port known =
    elim (pins_after-cases m.pins event net) [
      | inl e ↦ (let e0 = e.0 in let there : IsControlPort N event.net = rw e0 at port in rw (step.pins net, e.1) (step.legal.control there))
      | inr e ↦ rw (step.pins net, e) known
    ]

-- control ports are 0 or 1 at each moment
pub run_known : (N : NetlistView) (given : ℕ → Sig) (events : List PinEvent) (moment : ℕ → Moment) → IsRun N given events moment
    → (t : ℕ) → t ≤ length events → (net : ℕ) → IsControlPort N net → IsKnownPin ((moment t).pins net)
run_known N given events moment run zero h net port = run.start.controls net port
run_known N given events moment run (suc t) h net port =
    let e = event_at events t h in
    step_known N e.0 (moment t) (moment (suc t)) (run.steps t e.0 e.1) net port (run_known N given events moment run t (omega arith) net port)

-- each moment is settled
pub run_settled : (N : NetlistView) (given : ℕ → Sig) (events : List PinEvent) (moment : ℕ → Moment) → IsRun N given events moment
    → (t : ℕ) → t ≤ length events → IsSettled N (moment t).pins (moment t).state (moment t).value
run_settled N given events moment run zero h = run.start.settled
run_settled N given events moment run (suc t) h = let e = event_at events t h in (run.steps t e.0 e.1).settled

pub controls_known : ControlsKnown
controls_known N given events moment formed run t h net c =
    let m = moment t in
    controls_known_under N (pin_rule N m.pins) m.state m.value formed (run_settled N given events moment run t h)
    (λ n port. rw (pin_rule-input N m.pins m.value n port.0) (see_known (m.pins n) (run_known N given events moment run t h n port))) net c

-- control nets hang on the pins of inputs alone
pub controls_same : (N : NetlistView) (pins pins' : ℕ → PinSig) (state state' v v' : ℕ → Sig) → IsWellFormed N → SamePins N pins pins'
    → IsSettled N pins state v → IsSettled N pins' state' v' → SameControlNets N v v'
controls_same N pins pins' state state' v v' formed same a b =
    controls_once N (pin_rule N pins) (pin_rule N pins') state state' v v' formed a b
    (λ net port. let g : follows_pin (direction N.ports net) ≡ true = ap follows_pin port.0 in
    pin_rule-input N pins v net port.0 ∙ ap see (same net g) ∙ sym (pin_rule-input N pins' v' net port.0))

pub run_has_moments : RunHasMoments
run_has_moments N given events moment run t below = record {
  settled = run_settled N given events moment run t below;
  step = λ h. let e = event_at events t h in (e.0, e.1, run.steps t e.0 e.1);
}
