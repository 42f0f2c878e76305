-- What is outside the chip from any moment on.
use Rattle.std.proofs.Common.{◌≡◌, ◌≤◌, ◌+◌, ℕ, zero, suc, List, length, sym, ◌∙◌, ap, subst, arith}
use Rattle.netlist_model.specs.Lists.{NetlistView}
use Rattle.netlist_model.specs.Cones.{IsControlPort}
use Rattle.netlist_model.specs.Runs.{IsKnownPin}
use Rattle.wrapped_chip.specs.ChipRuns.{ChipMoment, ChipEvent}
use Rattle.wrapped_chip.specs.Home.{IsOutside, OutsideGoesOn}
use Rattle.wrapped_chip.proofs.Chips.{event_at}
use Rattle.wrapped_chip.proofs.Known.{pins_known}
use Rattle.wrapped_chip.proofs.Stretches.{drop_at}

known_outside : (N : NetlistView) (events : List ChipEvent) (outside : ℕ → ChipMoment) → IsOutside N events outside → (t : ℕ) → t ≤ length events
    → (net : ℕ) → IsControlPort N net → IsKnownPin ((outside t).pins net)
known_outside N events outside is zero h net port = is.controls net port
known_outside N events outside is (suc t) h net port =
    let e = event_at events t (omega arith) in
    subst IsKnownPin (sym (is.pins t e.0 e.1 net)) (pins_known N e.0 (outside t).pins net (is.legal t e.0 e.1) port (known_outside N events outside is t (omega arith) net port))

pub goes_on : OutsideGoesOn
goes_on = λ N events outside first within is. record {
  controls = λ net port. let e : first + 0 ≡ first = omega arith in
      subst (λ (t : ℕ). IsKnownPin ((outside t).pins net)) (sym e) (known_outside N events outside is first within net port);
  legal = λ t event at. is.legal (first + t) event (sym (drop_at events first t) ∙ at);
  levels = λ t event at. let e : first + suc t ≡ suc (first + t) = omega arith in
      ap (λ (u : ℕ). (outside u).levels) e ∙ is.levels (first + t) event (sym (drop_at events first t) ∙ at);
  pins = λ t event at net. let e : first + suc t ≡ suc (first + t) = omega arith in
      ap (λ (u : ℕ). (outside u).pins net) e ∙ is.pins (first + t) event (sym (drop_at events first t) ∙ at) net;
}
