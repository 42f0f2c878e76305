use Rattle.std.proofs.Common.{◌≡◌, ℕ, arith, Some, None}
use Rattle.std.specs.Prelude.{slice_index_or}
use Rattle.std.specs.List.{slice_get}
use Rattle.std.proofs.lemmas.Option.{slice_get-get_or}
use Rattle.netlist_model.specs.Formed.{IsLaidOut}
use Rattle.netlist_model.specs.Runs.{Moment, reading_at}
use Rattle.netlist_meaning.specs.Sims.{moment_of}
use Rattle.sim_runs.specs.declared.shown.Shown.{Shown}
use Rattle.sim_runs.specs.Bits.{told_at, bit_line}
use Rattle.sim_runs.proofs.Texts.{reading_is, last_is, told_is, told_next, given_next, given_cut}
use Rattle.sim_runs.proofs.readings.put_readings.Goals as goal

abbrev none : Shown
none = record { pin = record { port = record { 0 = 0 }; bit = 0 }; net = record { 0 = 0 } }

pub put_told-requires : goal.put_told-requires
put_told-requires g c =
    let bit : Shown = slice_index_or c.args.bits.now c.loop-place.place none in
    let at : slice_get c.args.bits.now c.loop-place.place ≡ Some bit = slice_get-get_or c.args.bits.now c.loop-place.place none c.loop-place-test.true in
    let laid : IsLaidOut c.args.linked.now.arena.lists = rw c.netlist.ensures.netlist at c.is_laid_out.ensures.laid_out in
    laid.port_nets bit.pin.port.0 bit.pin.bit bit.net (c.requires.bits.each c.loop-place.place bit at)

pub returns-in_default-clause-fault : goal.returns-in_default-clause-fault
returns-in_default-clause-fault g c =
    let L = c.args.linked.now in
    let m : Moment = moment_of c.args.sim.now.moment in
    let bit : Shown = slice_index_or c.args.bits.now c.loop-place.place none in
    let at : slice_get c.args.bits.now c.loop-place.place ≡ Some bit = slice_get-get_or c.args.bits.now c.loop-place.place none c.loop-place-test.true in
    let reads : c.reading-reading.result ≡ reading_at L.arena.lists m bit.net.0 =
    reading_is c.args.sim.now.linked L m bit.pin bit.net c.reading-reading.result c.requires.linked (c.requires.bits.each c.loop-place.place bit at) c.reading-reading.ensures in
    let fault = c.in_default.ensures.fault in
    λ last is.
    let before = last_is last (told_at L.arena.lists m) c.args.bits.now c.loop-place.place bit c.args.told.now c.loop-place.told None at c.requires.room is c.loop-place.invariant.told in
    given_cut (bit_line L last m) c.args.bits.now c.loop-place.place bit _ (g.O.Sink.given c.args.out.now) (g.O.Sink.given c.loop-place.out) (g.O.Sink.given c.put_told.new.out) fault.0 at
    (told_is L last m bit _ c.reading-reading.result before reads) (c.loop-place.invariant.given last is) fault.1

pub loop-place-preserved : goal.loop-place-preserved
loop-place-preserved g c =
    let L = c.args.linked.now in
    let m : Moment = moment_of c.args.sim.now.moment in
    let bit : Shown = slice_index_or c.args.bits.now c.loop-place.place none in
    let at : slice_get c.args.bits.now c.loop-place.place ≡ Some bit = slice_get-get_or c.args.bits.now c.loop-place.place none c.loop-place-test.true in
    let reads : c.reading-reading.result ≡ reading_at L.arena.lists m bit.net.0 =
    reading_is c.args.sim.now.linked L m bit.pin bit.net c.reading-reading.result c.requires.linked (c.requires.bits.each c.loop-place.place bit at) c.reading-reading.ensures in
    record {
      given = λ last is.
          let before = last_is last (told_at L.arena.lists m) c.args.bits.now c.loop-place.place bit c.args.told.now c.loop-place.told None at c.requires.room is c.loop-place.invariant.told in
          given_next (bit_line L last m) c.args.bits.now c.loop-place.place bit _ (g.O.Sink.given c.args.out.now) (g.O.Sink.given c.loop-place.out) (g.O.Sink.given c.put_told.new.out) at
          (told_is L last m bit _ c.reading-reading.result before reads) (c.loop-place.invariant.given last is) c.in-Ok.ensures.ok;
      told = told_next L.arena.lists m c.args.bits.now c.loop-place.place bit c.args.told.now c.loop-place.told c.reading-reading.result at c.requires.room reads c.loop-place.invariant.told;
      later = (let before = c.loop-place.invariant.later in let after = c.put_told.ensures.later in omega (arith, before, after));
    }
