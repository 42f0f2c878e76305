use Rattle.std.proofs.Common.{◌≡◌, ℕ, ◌<◌, length, refl, arith}
use Rattle.std.specs.Prelude.{slice_index_or}
use Rattle.std.proofs.lemmas.Option.{slice_get-get_or, slice_get_read}
use Rattle.signal_values.specs.declared.PinSig.TheVariants.{Zero}
use Rattle.scan_vectors.specs.declared.lines.Act.TheVariants.{Start}
use Rattle.scan_vectors.specs.declared.scripts.script.ScriptLine.{ScriptLine}
use Rattle.sim_runs.specs.Outputs.{sets_with}
use Rattle.sim_runs.proofs.Starts.{can_play}
use Rattle.netlist_model.specs.Runs.{Moment}
use Rattle.netlist_meaning.specs.Sims.{moment_of}
use Rattle.sim_runs.specs.Bits.{untold, bits_text}
use Rattle.sim_runs.proofs.Texts.{first_text, sets_more}
use Rattle.sim_runs.proofs.Steps.{none_played, first_cut, line_played, line_cut, done_played, done_cut}
use Rattle.sim_runs.proofs.script_run.put_run.Goals as goal

pub returns-in_default-clause-fault : goal.returns-in_default-clause-fault
returns-in_default-clause-fault g c =
    let L = c.args.linked.now in
    let m : Moment = moment_of c.args.sim.now.moment in
    let fault = c.in_default.ensures.fault untold c.requires.untold in
    λ moment run same. first_cut L c.args.lines.now c.args.script.now moment m (bits_text L untold m c.args.bits.now) (g.O.Sink.given c.args.out.now) (g.O.Sink.given c.put_readings.new.out) fault.0
    same (first_text L m c.args.bits.now c.requires.bits) fault.1

pub loop-place-init : goal.loop-place-init
loop-place-init g c =
    let L = c.args.linked.now in
    let m : Moment = moment_of c.args.sim.now.moment in
    record {
      linked = c.requires.linked;
      started = c.requires.started;
      told = c.in-Ok.ensures.told;
      played = λ moment run same. none_played L c.args.lines.now c.args.script.now moment m (bits_text L untold m c.args.bits.now) (g.O.Sink.given c.args.out.now) (g.O.Sink.given c.put_readings.new.out)
          same (first_text L m c.args.bits.now c.requires.bits) (c.in-Ok.ensures.ok untold c.requires.untold);
      sets_few = omega arith;
      missed_few = omega arith;
      later = c.put_readings.ensures.later;
    }

abbrev none : ScriptLine
none = record { act = Start; pin = record { port = record { 0 = 0 }; bit = 0 }; value = Zero; number = 0 }

pub play_line-requires-clause-can : goal.play_line-requires-clause-can
play_line-requires-clause-can g c =
    can_play c.args.linked.now.arena.lists c.args.script.now c.loop-place.place (slice_index_or c.args.script.now c.loop-place.place none) c.requires.playable
    (slice_get-get_or c.args.script.now c.loop-place.place none c.loop-place-test.true)

pub returns-in_default-play_line-clause-fault : goal.returns-in_default-play_line-clause-fault
returns-in_default-play_line-clause-fault g c =
    let fault = c.in_default-play_line.ensures.fault in
    let count = c.requires.count in
    let within : c.loop-place.place < length c.args.lines.now = omega (arith, count, c.loop-place-test.true) in
    let there = slice_get_read c.args.lines.now (length c.args.lines.now) c.loop-place.place c.index-lines-place.result refl within c.index-lines-place.is in
    let at = slice_get-get_or c.args.script.now c.loop-place.place none c.loop-place-test.true in
    λ moment run same. line_cut c.args.linked.now c.args.lines.now c.args.script.now moment c.loop-place.place c.loop-place.sets c.loop-place.missed (moment_of c.loop-place.sim.moment)
    (moment_of c.play_line.new.sim.moment) (g.O.Sink.given c.args.out.now) (g.O.Sink.given c.loop-place.out) (g.O.Sink.given c.play_line.new.out) fault.0 c.index-lines-place.result
    (slice_index_or c.args.script.now c.loop-place.place none) c.requires.formed run there at c.play_line.ensures.moves fault.1 (c.loop-place.invariant.played moment run same)

pub loop-place-preserved : goal.loop-place-preserved
loop-place-preserved g c =
    let line : ScriptLine = slice_index_or c.args.script.now c.loop-place.place none in
    let count = c.requires.count in
    let within : c.loop-place.place < length c.args.lines.now = omega (arith, count, c.loop-place-test.true) in
    let there = slice_get_read c.args.lines.now (length c.args.lines.now) c.loop-place.place c.index-lines-place.result refl within c.index-lines-place.is in
    let at = slice_get-get_or c.args.script.now c.loop-place.place none c.loop-place-test.true in
    let sets : c.sets_with-sets.result ≡ sets_with line.act c.loop-place.sets = c.sets_with-sets.ensures in
    record {
      linked = c.play_line.ensures.linked;
      started = c.play_line.ensures.started;
      told = c.in-Ok-play_line.ensures.told;
      played = λ moment run same. rw sets (line_played c.args.linked.now c.args.lines.now c.args.script.now moment c.loop-place.place c.loop-place.sets c.loop-place.missed c.in-Ok-play_line.one
          (moment_of c.loop-place.sim.moment) (moment_of c.play_line.new.sim.moment) (g.O.Sink.given c.args.out.now) (g.O.Sink.given c.loop-place.out) (g.O.Sink.given c.play_line.new.out)
          c.index-lines-place.result line c.requires.formed run there at c.play_line.ensures.moves c.in-Ok-play_line.ensures.missed c.in-Ok-play_line.ensures.ok
          (c.loop-place.invariant.played moment run same));
      sets_few = (let few = c.loop-place.invariant.sets_few in let more = sets_more line.act c.loop-place.sets in omega (arith, few, more, sets));
      missed_few = (let few = c.loop-place.invariant.missed_few in let one = c.in-Ok-play_line.ensures.few in omega (arith, few, one));
      later = (let before = c.loop-place.invariant.later in let after = c.play_line.ensures.later in omega (arith, before, after));
    }

pub returns-in_default-put_line-clause-fault : goal.returns-in_default-put_line-clause-fault
returns-in_default-put_line-clause-fault g c =
    let fault = c.in_default-put_line.ensures.fault in
    λ moment run same. done_cut c.args.linked.now c.args.lines.now c.args.script.now moment c.loop-place.place c.loop-place.sets c.loop-place.missed (moment_of c.loop-place.sim.moment)
    (g.O.Sink.given c.args.out.now) (g.O.Sink.given c.loop-place.out) (g.O.Sink.given c.put_line.new.out) fault.0 c.loop-place-test.false fault.1 (c.loop-place.invariant.played moment run same)

pub returns-clause-ok : goal.returns-clause-ok
returns-clause-ok g c = λ moment run same.
    done_played c.args.linked.now c.args.lines.now c.args.script.now moment c.loop-place.place c.loop-place.sets c.loop-place.missed (moment_of c.loop-place.sim.moment)
    (g.O.Sink.given c.args.out.now) (g.O.Sink.given c.loop-place.out) (g.O.Sink.given c.put_line.new.out) c.loop-place-test.false c.in-Ok-put_line.ensures.ok (c.loop-place.invariant.played moment run same)
