-- What goes through new numbers of nets and cells.
use Rattle.std.proofs.Common.{◌≡◌, ℕ, suc, true, false, List, [], ◌∷◌, map, Option, Some, None, refl, ap, sym, ◌∙◌}
use Rattle.cell_library.specs.signal_values.declared.Sig.{Sig}
use Rattle.cell_library.specs.signal_values.declared.PinSig.{PinSig}
use Rattle.cell_library.specs.signal_values.Values.{see, join}
use Rattle.netlist_model.specs.declared.Dir.{Dir}
use Rattle.netlist_model.specs.declared.Dir.TheVariants.{Input, Output, Inout}
use Rattle.netlist_model.specs.Lists.{NetlistView, direction}
use Rattle.netlist_model.specs.Settled.{follows_pin, cell_drive, drive_by, driver_of, pin_rule, IsSettled}
use Rattle.netlist_model.specs.Cones.{IsClockNet, IsControlNet}
use Rattle.netlist_model.specs.Formed.{IsDriven, IsWellFormed}
use Rattle.netlist_model.specs.Runs.{PinEvent, IsRun, pins_after, Moment, IsStart, IsStep}
use Rattle.netlist_model.specs.Drivers.{DriverIsFound}
use Rattle.netlist_model.specs.Nested.{renamed_cell, Nested}
use Rattle.netlist_model.specs.Renumbered.{IsRenumbering, renamed_event, seen_moment}
use Rattle.netlist_model.specs.RenumberedLaws.{RenumberedDirections, RenumberedPorts, RenumberedReads, RenumberedRuns, RunsHaveImages, SameLegal}
use Rattle.netlist_model.proofs.Nests.{feeds_renamed, nested_meets, nested_starts, nested_steps}
use Rattle.netlist_model.proofs.Numbers.{slice_get-mapped, same_test, copied_direction, drives_over, control_over, clock_over}
use Rattle.netlist_model.proofs.Forms.{renumbering_turns, renumbered_nested, renumbered_is_formed}

pub renumbered_directions : RenumberedDirections
renumbered_directions N M to at r = copied_direction N M to at r.back r.from r.there

control_back : (N M : NetlistView) (to at : ℕ → ℕ) → IsRenumbering N M to at → (net : ℕ) → IsControlNet M (to net) → IsControlNet N net
control_back N M to at r net c =
    let over : IsControlNet N (r.back (to net)) = control_over M N r.back r.from (renumbered_nested M N r.back r.from (renumbering_turns N M to at r)) (to net) c in
    rw (r.there.nets net) at over

clock_back : (N M : NetlistView) (to at : ℕ → ℕ) → IsRenumbering N M to at → (net : ℕ) → IsClockNet M (to net) → IsClockNet N net
clock_back N M to at r net c =
    let over : IsClockNet N (r.back (to net)) = clock_over M N r.back r.from (renumbered_nested M N r.back r.from (renumbering_turns N M to at r)) (to net) c in
    rw (r.there.nets net) at over

pub renumbered_ports : RenumberedPorts
renumbered_ports N M to at r =
    let dirs = renumbered_directions N M to at r in
    let n : Nested N M to at = renumbered_nested N M to at r in
    record {
      control = λ net port. (dirs net ∙ port.0, control_over N M to at n net port.1);
      control_back = λ net port. (sym (dirs net) ∙ port.0, control_back N M to at r net port.1);
      clock = λ net port. (dirs net ∙ port.0, clock_over N M to at n net port.1);
      clock_back = λ net port. (sym (dirs net) ∙ port.0, clock_back N M to at r net port.1);
    }

pub renumbered_legal : (N M : NetlistView) (to at : ℕ → ℕ) → IsRenumbering N M to at → (event : PinEvent) → SameLegal N M to event
renumbered_legal N M to at r event =
    let dirs = renumbered_directions N M to at r in
    let ports = renumbered_ports N M to at r in
    record {
      over = λ legal. record { taken = ap follows_pin (dirs event.net) ∙ legal.taken; control = λ port. legal.control (ports.control_back event.net port) };
      back = λ legal. record { taken = ap follows_pin (sym (dirs event.net)) ∙ legal.taken; control = λ port. legal.control (ports.control event.net port) };
    }

-- what drives a net gives the same under other numbers
drive_same : DriverIsFound → (N M : NetlistView) (to at : ℕ → ℕ) (value : ℕ → Sig) (net : ℕ) → IsRenumbering N M to at → IsWellFormed N → IsDriven N net
    → drive_by (driver_of M.cells (to net)) value (to net) ≡ drive_by (driver_of N.cells net) (λ n. value (to n)) net
drive_same found N M to at value net r formed d =
    let n : Nested N M to at = renumbered_nested N M to at r in
    let there = n.cells d.number d.cell d.drives.live in
    let here = found N formed.one_driver d.number d.cell net d.drives in
    let over = found M (renumbered_is_formed N M to at r formed).one_driver (at d.number) (renamed_cell to there.name d.cell) (to net)
    (drives_over N M to at n d.number d.cell net d.drives) in
    rw (here, over) (ap (λ xs. cell_drive d.cell.kind xs (value (to net))) (feeds_renamed to value d.cell.feeds))

-- the rule of the pins gives the same under other numbers
rule_same : DriverIsFound → (N M : NetlistView) (to at : ℕ → ℕ) (pins : ℕ → PinSig) (value : ℕ → Sig) (net : ℕ) → IsRenumbering N M to at → IsWellFormed N
    → (dir : Option Dir) → direction N.ports net ≡ dir → follows_pin dir ≡ true → pin_rule M pins value (to net) ≡ pin_rule N (λ n. pins (to n)) (λ n. value (to n)) net
rule_same found N M to at pins value net r formed (Some Input) e g = let f = renumbered_directions N M to at r net ∙ e in rw (e, f) refl
rule_same found N M to at pins value net r formed (Some Inout) e g =
    let f = renumbered_directions N M to at r net ∙ e in
    let d = drive_same found N M to at value net r formed (formed.inouts_driven net e) in rw (e, f) (ap (λ x. see (join x (pins (to net)))) d)
rule_same found N M to at pins value net r formed (Some Output) e g = absurd (let h : false ≡ true = g in cc)
rule_same found N M to at pins value net r formed None e g = absurd (let h : false ≡ true = g in cc)

-- own: a settled valuation of M is one of N
pub renumbered_settles : DriverIsFound → (N M : NetlistView) (to at : ℕ → ℕ) → IsRenumbering N M to at → IsWellFormed N → (pins : ℕ → PinSig) (state value : ℕ → Sig)
    → IsSettled M pins state value → IsSettled N (λ net. pins (to net)) (λ i. state (at i)) (λ net. value (to net))
renumbered_settles found N M to at r formed pins state value settled =
    let inner = nested_meets N M to at (pin_rule M pins) state value (renumbered_nested N M to at r) settled in
    record {
      pins = λ net g.
          settled.pins (to net) (ap follows_pin (renumbered_directions N M to at r net) ∙ g) ∙ rule_same found N M to at pins value net r formed (direction N.ports net) refl g;
      cells = inner.cells;
      undriven = inner.undriven;
    }

pub renumbered_reads : DriverIsFound → RenumberedReads
renumbered_reads found N M to at r formed pins value net Input e = let f = renumbered_directions N M to at r net ∙ e in rw (e, f) refl
renumbered_reads found N M to at r formed pins value net Output e =
    let f = renumbered_directions N M to at r net ∙ e in let d = drive_same found N M to at value net r formed (formed.outputs_driven net e) in rw (e, f) d
renumbered_reads found N M to at r formed pins value net Inout e =
    let f = renumbered_directions N M to at r net ∙ e in let d = drive_same found N M to at value net r formed (formed.inouts_driven net e) in rw (e, f) (ap (λ x. join x (pins (to net))) d)

-- own: a start of M is one of N
pub renumbered_starts : DriverIsFound → (N M : NetlistView) (to at : ℕ → ℕ) → IsRenumbering N M to at → IsWellFormed N → (given : ℕ → Sig) (m : Moment)
    → IsStart M given m → IsStart N (λ i. given (at i)) (seen_moment to at m)
renumbered_starts found N M to at r formed given m start = record {
  controls = λ net port. start.controls (to net) ((renumbered_ports N M to at r).control net port);
  settled = renumbered_settles found N M to at r formed m.pins m.state m.value start.settled;
  flops = nested_starts N M to at given m.value m.state (renumbered_nested N M to at r) start.flops;
}

pins_same : (to back : ℕ → ℕ) → ((n : ℕ) → back (to n) ≡ n) → (pins : ℕ → PinSig) (event : PinEvent) (net : ℕ)
    → pins_after pins (renamed_event to event) (to net) ≡ pins_after (λ n. pins (to n)) event net
pins_same to back undo pins event net = rw (same_test to back undo net event.net) refl

-- own: a step of M by a renamed event is one of N by the event
pub renumbered_steps : DriverIsFound → (N M : NetlistView) (to at : ℕ → ℕ) → IsRenumbering N M to at → IsWellFormed N → (event : PinEvent) (m m' : Moment)
    → IsStep M (renamed_event to event) m m' → IsStep N event (seen_moment to at m) (seen_moment to at m')
renumbered_steps found N M to at r formed event m m' step = record {
  legal = (renumbered_legal N M to at r event).back step.legal;
  pins = λ net. step.pins (to net) ∙ pins_same to r.back r.there.nets m.pins event net;
  settled = renumbered_settles found N M to at r formed m'.pins m'.state m'.value step.settled;
  flops = nested_steps N M to at m.value m'.value m.state m'.state (renumbered_nested N M to at r) step.flops;
}

pub renumbered_runs : DriverIsFound → RenumberedRuns
renumbered_runs found N M to at r formed given events moment run = record {
  start = renumbered_starts found N M to at r formed given (moment 0) run.start;
  steps = λ t event e. renumbered_steps found N M to at r formed event (moment t) (moment (suc t))
      (run.steps t (renamed_event to event) (slice_get-mapped (renamed_event to) events t event e));
}

-- events come back
events_back : (to back : ℕ → ℕ) → ((n : ℕ) → back (to n) ≡ n) → (events : List PinEvent) → map (renamed_event back) (map (renamed_event to) events) ≡ events
events_back to back undo [] = refl
events_back to back undo (event ∷ events) =
    let same : renamed_event back (renamed_event to event) ≡ event = ap (λ n. record event { net = n }) (undo event.net) in
    let rest = events_back to back undo events in
    rw (same, rest) refl

pub runs_have_images : DriverIsFound → RunsHaveImages
runs_have_images found N M to at r formed given events moment run =
    let back = r.back in
    let from = r.from in
    let undone : map (renamed_event back) (map (renamed_event to) events) ≡ events = events_back to back r.there.nets events in
    let run' : IsRun N given (map (renamed_event back) (map (renamed_event to) events)) moment = rw undone run in
    record {
      start = λ i. given (from i);
      image = λ t. seen_moment back from (moment t);
      run = renumbered_runs found M N back from (renumbering_turns N M to at r) (renumbered_is_formed N M to at r formed) given (map (renamed_event to) events) moment run';
      starts = λ i cell live. ap given (r.there.numbers i cell live);
      same = λ t. record {
        pins = λ net. ap (moment t).pins (r.there.nets net);
        state = λ i cell live. ap (moment t).state (r.there.numbers i cell live);
        value = λ net. ap (moment t).value (r.there.nets net);
      };
    }
