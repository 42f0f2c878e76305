use Rattle.std.proofs.Common.{◌<◌, ◌∙◌, length, length-set, arith, inl, refl}
use Rattle.event_turns.proofs.Logs.{logs_push, logs_then}
use Rattle.event_turns.proofs.EventSteps.{begun, stepped}
use Rattle.event_turns.proofs.turns.step_from.Goals as goal

pub run-requires-clause-begun : goal.run-requires-clause-begun
run-requires-clause-begun g c =
    let awaits = c.requires.awaits in
    let below : c.args.net.0 < length c.args.pins.now = (let p = awaits.for_pins in let t = c.requires.there in omega arith) in
    rw c.requires.before (begun _ (record { net = c.args.net.0; value = c.args.value }) c.args.pins.now _ c.args.values.now _ c.args.state.now _ _ c.args.given c.args.first c.are_tables.ensures
    c.requires.legal below c.requires.given awaits.rest awaits.fits awaits.empty c.requires.frontier c.give.ensures.taken)

pub returns : goal.returns
returns g c =
    let awaits = c.requires.awaits in
    let below : c.args.net.0 < length c.args.pins.now = (let p = awaits.for_pins in let t = c.requires.there in omega arith) in
    let ran = rw c.requires.before at c.run.ensures in
    let done = stepped _ (record { net = c.args.net.0; value = c.args.value }) c.args.pins.now _ c.args.values.now _ c.args.state.now _ _ _ _ c.are_tables.ensures c.requires.legal below ran.done in
    let given = c.give.ensures.logs c.args.drives.now in
    record {
      stepped = record { step = done.step; few = ran.done.few; long_pins = length-set _ _ _; long_state = ran.state };
      awaits = record {
        for_pins = length-set _ _ _ ∙ awaits.for_pins;
        for_log = (let room = awaits.for_log in let pushed = c.push.ensures.long in let gave = given.long in let passed = c.run.ensures.logs.long in omega arith);
        fits = ran.done.fits;
        rest = done.rest;
        empty = ran.done.empty;
      };
      logs = logs_then _ _ _ _ _ _ _ _ _ _ (logs_then _ _ _ _ _ _ _ _ _ _ (logs_push _ _ _ _ _ _ c.requires.there c.push.ensures) given) c.run.ensures.logs;
      own = c.run.ensures.logs.kept c.args.net.0 (given.kept c.args.net.0 ((c.push.ensures.each c.args.net.0).1 (inl refl)));
    }

pub run-requires-clause-log : goal.run-requires-clause-log
run-requires-clause-log g c =
    let room = c.requires.awaits.for_log in
    let pushed = c.push.ensures.long in
    let given = (c.give.ensures.logs c.args.drives.now).long in
    omega arith
