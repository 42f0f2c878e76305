use Rattle.std.proofs.Common.{◌≡◌, ◌≤◌, ◌<◌, ◌∙◌, ℕ, refl, length-set, arith, Some, None}
use Rattle.std.specs.Prelude.{slice_index_or}
use Rattle.std.specs.List.{slice_get}
use Rattle.std.proofs.lemmas.Option.{slice_get-get_or}
use Rattle.netlist_model.specs.Formed.{IsLaidOut}
use Rattle.netlist_model.specs.Runs.{Moment, reading_at}
use Rattle.netlist_meaning.specs.Sims.{moment_of}
use Rattle.sim_runs.specs.declared.shown.Shown.{Shown}
use Rattle.sim_runs.specs.Bits.{told_at, bit_line}
use Rattle.sim_runs.proofs.Texts.{appended-none, reading_is, last_is, told_is, told_next, given_next, given_cut}
use Rattle.sim_runs.proofs.Changes.{none_told, told_to, told_further, all_told}
use Rattle.sim_runs.proofs.readings.put_changes.Goals as goal

abbrev none : Shown
none = record { pin = record { port = record { 0 = 0 }; bit = 0 }; net = record { 0 = 0 } }

pub loop-passed-init : goal.loop-passed-init
loop-passed-init g c = record {
  linked = c.requires.linked;
  started = c.requires.started;
  moment = refl;
  long = c.requires.room;
  changes = λ before was. none_told _ _ _ _ _ _ _ (appended-none _);
  later = omega arith;
}

pub put_told-requires : goal.put_told-requires
put_told-requires g c =
    let bit : Shown = slice_index_or c.args.bits.now c.in-Some.place none in
    let at : slice_get c.args.bits.now c.in-Some.place ≡ Some bit = slice_get-get_or c.args.bits.now c.in-Some.place none (omega (arith, c.if-place-bits.false)) in
    let laid : IsLaidOut c.args.linked.now.arena.lists = rw c.netlist.ensures.netlist at c.is_laid_out.ensures.laid_out in
    laid.port_nets bit.pin.port.0 bit.pin.bit bit.net (c.requires.bits.each c.in-Some.place bit at)

pub reading-now-requires-clause-pin : goal.reading-now-requires-clause-pin
reading-now-requires-clause-pin g c =
    let bit : Shown = slice_index_or c.args.bits.now c.in-Some.place none in
    let at : slice_get c.args.bits.now c.in-Some.place ≡ Some bit = slice_get-get_or c.args.bits.now c.in-Some.place none (omega (arith, c.if-place-bits.false)) in
    rw (c.take_changed.ensures.linked, c.loop-passed.invariant.linked, c.requires.bits.each c.in-Some.place bit at) refl

pub returns-in_default-clause-ok : goal.returns-in_default-clause-ok
returns-in_default-clause-ok g c = λ before was. (all_told _ _ _ _ _ _ _ _ _ _ _ c.requires.room was (c.loop-passed.invariant.changes before was) (λ k is. absurd (c.in_default.ensures.place.before k is))).given_is

pub returns-in_default-clause-told : goal.returns-in_default-clause-told
returns-in_default-clause-told g c = λ before was. (all_told _ _ _ _ _ _ _ _ _ _ _ c.requires.room was (c.loop-passed.invariant.changes before was) (λ k is. absurd (c.in_default.ensures.place.before k is))).told_is

pub returns-then-place-bits-clause-ok : goal.returns-then-place-bits-clause-ok
returns-then-place-bits-clause-ok g c = λ before was.
    (all_told _ _ _ _ _ _ _ _ _ _ _ c.requires.room was (c.loop-passed.invariant.changes before was) (λ k is. (let low = c.in-Some.ensures.place.least.least k is in omega (arith, c.if-place-bits.true)))).given_is

pub returns-then-place-bits-clause-told : goal.returns-then-place-bits-clause-told
returns-then-place-bits-clause-told g c = λ before was.
    (all_told _ _ _ _ _ _ _ _ _ _ _ c.requires.room was (c.loop-passed.invariant.changes before was) (λ k is. (let low = c.in-Some.ensures.place.least.least k is in omega (arith, c.if-place-bits.true)))).told_is

pub returns-clause-ok : goal.returns-clause-ok
returns-clause-ok g c = λ before was.
    (all_told _ _ _ _ _ _ _ _ _ _ _ c.requires.room was (c.loop-passed.invariant.changes before was)
    (λ k is. (let low = (c.loop-passed.invariant.changes before was).left k is in let p = (c.loop-passed.invariant.changes before was).passes in omega (arith, c.loop-passed-test.false)))).given_is

pub returns-clause-told : goal.returns-clause-told
returns-clause-told g c = λ before was.
    (all_told _ _ _ _ _ _ _ _ _ _ _ c.requires.room was (c.loop-passed.invariant.changes before was)
    (λ k is. (let low = (c.loop-passed.invariant.changes before was).left k is in let p = (c.loop-passed.invariant.changes before was).passes in omega (arith, c.loop-passed-test.false)))).told_is

pub returns-in_default-put_told-clause-fault : goal.returns-in_default-put_told-clause-fault
returns-in_default-put_told-clause-fault g c =
    let L = c.args.linked.now in
    let m : Moment = moment_of c.args.sim.now.moment in
    let bit : Shown = slice_index_or c.args.bits.now c.in-Some.place none in
    let at : slice_get c.args.bits.now c.in-Some.place ≡ Some bit = slice_get-get_or c.args.bits.now c.in-Some.place none (omega (arith, c.if-place-bits.false)) in
    let read = rw (c.take_changed.ensures.moment, c.loop-passed.invariant.moment) at c.reading-now.ensures in
    let reads : c.reading-now.result ≡ reading_at L.arena.lists m bit.net.0 =
    reading_is c.take_changed.new.self.linked L m bit.pin bit.net c.reading-now.result (c.take_changed.ensures.linked ∙ c.loop-passed.invariant.linked) (c.requires.bits.each c.in-Some.place bit at) read in
    let pops = c.in-Some.ensures.place in
    let fault = c.in_default-put_told.ensures.fault in
    λ before was.
    let up = c.loop-passed.invariant.changes before was in
    let to = told_to _ _ _ _ _ _ _ _ _ _ _ c.in-Some.place was up (up.left c.in-Some.place pops.least.set) (omega (arith, c.if-place-bits.false)) pops.least.least in
    let last = last_is (told_at L.arena.lists before) (told_at L.arena.lists m) c.args.bits.now c.in-Some.place bit c.args.told.now c.loop-passed.told None at c.requires.room was.told_is to.told_is in
    given_cut (bit_line L (told_at L.arena.lists before) m) c.args.bits.now c.in-Some.place bit _ (g.O.Sink.given c.args.out.now) (g.O.Sink.given c.loop-passed.out) (g.O.Sink.given c.put_told.new.out) fault.0 at
    (told_is L (told_at L.arena.lists before) m bit _ c.reading-now.result last reads) to.given_is fault.1

pub loop-passed-preserved : goal.loop-passed-preserved
loop-passed-preserved g c =
    let L = c.args.linked.now in
    let m : Moment = moment_of c.args.sim.now.moment in
    let bit : Shown = slice_index_or c.args.bits.now c.in-Some.place none in
    let at : slice_get c.args.bits.now c.in-Some.place ≡ Some bit = slice_get-get_or c.args.bits.now c.in-Some.place none (omega (arith, c.if-place-bits.false)) in
    let read = rw (c.take_changed.ensures.moment, c.loop-passed.invariant.moment) at c.reading-now.ensures in
    let reads : c.reading-now.result ≡ reading_at L.arena.lists m bit.net.0 =
    reading_is c.take_changed.new.self.linked L m bit.pin bit.net c.reading-now.result (c.take_changed.ensures.linked ∙ c.loop-passed.invariant.linked) (c.requires.bits.each c.in-Some.place bit at) read in
    let pops = c.in-Some.ensures.place in
    record {
      linked = c.take_changed.ensures.linked ∙ c.loop-passed.invariant.linked;
      started = c.take_changed.ensures.started ∙ c.loop-passed.invariant.started;
      moment = c.take_changed.ensures.moment ∙ c.loop-passed.invariant.moment;
      long = length-set _ _ _ ∙ c.loop-passed.invariant.long;
      changes = λ before was.
          let up = c.loop-passed.invariant.changes before was in
          let to = told_to _ _ _ _ _ _ _ _ _ _ _ c.in-Some.place was up (up.left c.in-Some.place pops.least.set) (omega (arith, c.if-place-bits.false)) pops.least.least in
          let last = last_is (told_at L.arena.lists before) (told_at L.arena.lists m) c.args.bits.now c.in-Some.place bit c.args.told.now c.loop-passed.told None at c.requires.room was.told_is to.told_is in
          told_further _ _ _ _ _ _ _ _ _ _ _ _ _ _ c.in-Some.place bit was up pops at
          (told_next L.arena.lists m c.args.bits.now c.in-Some.place bit c.args.told.now c.loop-passed.told c.reading-now.result at c.requires.room reads to.told_is)
          (given_next (bit_line L (told_at L.arena.lists before) m) c.args.bits.now c.in-Some.place bit _ (g.O.Sink.given c.args.out.now) (g.O.Sink.given c.loop-passed.out) (g.O.Sink.given c.put_told.new.out) at
          (told_is L (told_at L.arena.lists before) m bit _ c.reading-now.result last reads) to.given_is c.in-Ok.ensures.ok);
      later = (let before = c.loop-passed.invariant.later in let after = c.put_told.ensures.later in omega (arith, before, after));
    }
