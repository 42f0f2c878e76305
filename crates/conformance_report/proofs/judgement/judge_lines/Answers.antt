use Rattle.std.proofs.Common.{◌≡◌, ◌∙◌, refl, arith}
use Rattle.std.specs.Prelude.{slice_index_or}
use Rattle.std.proofs.lemmas.Option.{slice_get-get_or}
use Rattle.signal_values.specs.declared.PinSig.TheVariants.{Zero}
use Rattle.netlist_model.specs.Runs.{Moment}
use Rattle.scan_vectors.specs.declared.lines.Act.TheVariants.{Start}
use Rattle.scan_vectors.specs.declared.scripts.script.ScriptLine.{ScriptLine}
use Rattle.netlist_meaning.specs.Sims.{moment_of}
use Rattle.sim_runs.proofs.Starts.{can_play}
use Rattle.sim_runs.proofs.Texts.{sets_more}
use Rattle.conformance_report.proofs.Played.{all_judged, line_judged, met_most, none_judged}
use Rattle.conformance_report.proofs.judgement.judge_lines.Goals as goal

abbrev none : ScriptLine
none = record { act = Start; pin = record { port = record { 0 = 0 }; bit = 0 }; value = Zero; number = 0 }

pub loop-line-init : goal.loop-line-init
loop-line-init g c = record {
  linked = c.requires.linked;
  started = c.requires.started;
  judged = none_judged c.args.linked.now.arena.lists c.args.script.now (moment_of c.args.sim.now.moment) _ c.requires.first refl refl c.new.ensures;
  sets_few = omega arith;
  met_few = omega arith;
}

pub take_line-requires-clause-can : goal.take_line-requires-clause-can
take_line-requires-clause-can g c =
    rw c.loop-line.invariant.linked (can_play c.args.linked.now.arena.lists c.args.script.now c.loop-line.line-index (slice_index_or c.args.script.now c.loop-line.line-index none) c.requires.playable
    (slice_get-get_or c.args.script.now c.loop-line.line-index none c.loop-line-test.true))

pub loop-line-preserved : goal.loop-line-preserved
loop-line-preserved g c =
    let N = c.args.linked.now.arena.lists in
    let script = c.args.script.now in
    let index = c.loop-line.line-index in
    let line : ScriptLine = slice_index_or script index none in
    let at = slice_get-get_or script index none c.loop-line-test.true in
    let before : Moment = moment_of c.loop-line.sim.moment in
    let after : Moment = moment_of c.take_line.new.sim.moment in
    let moves = rw c.loop-line.invariant.linked at c.take_line.ensures.moves in
    let judges = rw c.loop-line.invariant.linked at c.in_ok-take_line.ensures.judges in
    record {
      linked = c.take_line.ensures.linked ∙ c.loop-line.invariant.linked;
      started = c.take_line.ensures.started;
      judged = line_judged N script index before after c.loop-line.verdict c.take_line.new.verdict line at moves c.in_ok-take_line.ensures.sets judges c.loop-line.invariant.judged;
      sets_few = (let few = c.loop-line.invariant.sets_few in let is = c.in_ok-take_line.ensures.sets in let most = sets_more line.act c.loop-line.verdict.sets in omega (arith, few, is, most));
      met_few = (let few = c.loop-line.invariant.met_few in let is = judges.met in let most = met_most N line before line.act in omega (arith, few, is, most));
    }

pub returns : goal.returns
returns g c = all_judged c.args.linked.now.arena.lists c.args.script.now c.loop-line.line-index (moment_of c.loop-line.sim.moment) c.loop-line.verdict c.loop-line-test.false c.loop-line.invariant.judged
