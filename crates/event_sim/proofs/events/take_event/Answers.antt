use Rattle.std.proofs.Common.{◌≡◌, ◌≤◌, ◌<◌, ◌*◌, ◌∙◌, ℕ, length, sym, arith}
use Rattle.event_sim.proofs.Simulators.{anew_logged, logged_nets}
use Rattle.event_sim.proofs.events.take_event.Goals as goal

pub empty_log-requires-clause-same : goal.empty_log-requires-clause-same
empty_log-requires-clause-same g c = λ net not. rw c.requires.between.same (sym (c.step.ensures.logs.values_stay net not))

pub empty_log-requires-clause-nets : goal.empty_log-requires-clause-nets
empty_log-requires-clause-nets g c = λ net is. rw c.step.ensures.awaits.fits.for_values (logged_nets _ _ _ _ _ _ _ net c.requires.between.none c.step.ensures.logs is)

pub returns-clause-between : goal.returns-clause-between
returns-clause-between g c =
    let awaits = c.step.ensures.awaits in
    record {
      awaits = record {
        for_pins = awaits.for_pins;
        for_log = (let room = awaits.for_log in let long = c.empty_log.ensures.log in omega arith);
        fits = awaits.fits;
        rest = awaits.rest;
        empty = awaits.empty;
      };
      same = c.empty_log.ensures.before;
      none = c.empty_log.ensures.empty;
    }

pub returns-clause-noted : goal.returns-clause-noted
returns-clause-noted g c = record {
  long = c.empty_log.ensures.changed;
  kept = c.empty_log.ensures.kept;
  noted = λ net place at anew.
      c.empty_log.ensures.noted net place (anew_logged _ (record { net = c.args.net.0; value = c.args.value }) c.args.pins.now c.step.new.pins c.args.drives.now c.step.new.drives c.args.values.now c.step.new.values
      c.args.state.now c.step.new.state _ c.args.log.now c.step.new.log net c.requires.between.awaits.rest c.step.ensures.awaits.rest c.step.ensures.stepped.step.pins c.step.ensures.own c.step.ensures.logs anew) at;
}
