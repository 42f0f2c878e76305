use Rattle.std.proofs.Common.{◌≡◌, ◌≤◌, ◌∙◌, sym, arith}
use Rattle.std.proofs.lemmas.Option.{slice_get-get_or, get_or_from_slice_get}
use Rattle.signal_values.specs.declared.Sig.TheVariants.{Unknown}
use Rattle.event_sim.proofs.EmptiedLog.{none_emptied, one_emptied, all_emptied, none_left}
use Rattle.event_sim.proofs.changes.empty_log.Goals as goal

pub loop-passed-init : goal.loop-passed-init
loop-passed-init c = record { emptied = none_emptied _ _ _ _ _ c.requires.long c.requires.same; passed = omega arith }

pub returns-in_default : goal.returns-in_default
returns-in_default c =
    let e = c.loop-passed.invariant.emptied in
    let all = all_emptied _ _ _ _ _ _ _ _ c.in_default.ensures.before e in
    record {
      before = all.before_is;
      empty = c.in_default.ensures.none;
      log = c.in_default.ensures.long ∙ e.log_long;
      changed = e.changed_long;
      kept = e.kept;
      noted = all.each;
    }

pub loop-passed-preserved : goal.loop-passed-preserved
loop-passed-preserved c =
    let e = c.loop-passed.invariant.emptied in
    let p = c.in-Some.ensures in
    let below = c.requires.nets c.in-Some.net (e.was c.in-Some.net p.least.set) in
    let same = sym (get_or_from_slice_get c.args.values.now c.in-Some.net _ Unknown (slice_get-get_or c.args.values.now c.in-Some.net _ below)) in
    record {
      emptied = one_emptied c.args.values.now c.args.places.now _ _ _ _ _ _ _ _ c.in-Some.net _ below p same c.note.ensures.long c.note.ensures.kept c.note.ensures.noted e;
      passed = (let late = e.left c.in-Some.net p.least.set in let passed = c.loop-passed.invariant.passed in omega arith);
    }

pub returns : goal.returns
returns c =
    let e = c.loop-passed.invariant.emptied in
    let none = none_left _ _ _ _ _ _ _ _ (let passed = c.loop-passed.invariant.passed in omega (arith, c.loop-passed-test.false)) c.requires.nets e in
    let all = all_emptied _ _ _ _ _ _ _ _ none e in
    record {
      before = all.before_is;
      empty = none;
      log = e.log_long;
      changed = e.changed_long;
      kept = e.kept;
      noted = all.each;
    }
