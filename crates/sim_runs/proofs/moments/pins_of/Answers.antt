use Rattle.std.proofs.Common.{arith}
use Rattle.std.specs.Prelude.{slice_index_or}
use Rattle.std.proofs.lemmas.Option.{slice_get-get_or, slice_get_within}
use Rattle.signal_values.specs.declared.PinSig.TheVariants.{Zero}
use Rattle.scan_vectors.specs.declared.lines.Act.TheVariants.{Start}
use Rattle.scan_vectors.specs.declared.scripts.script.ScriptLine.{ScriptLine}
use Rattle.sim_runs.proofs.Starts.{can_start, taken_next}
use Rattle.sim_runs.proofs.moments.pins_of.Goals as goal

pub take_start-requires : goal.take_start-requires
take_start-requires c =
    let none : ScriptLine = record { act = Start; pin = record { port = record { 0 = 0 }; bit = 0 }; value = Zero; number = 0 } in
    can_start c.args.linked.now.arena.lists c.args.script.now c.loop-line.pins.ports c.loop-line.line-index (slice_index_or c.args.script.now c.loop-line.line-index none)
    c.loop-line.invariant.made.ports c.requires.playable (slice_get-get_or c.args.script.now c.loop-line.line-index none c.loop-line-test.true)

pub loop-line-preserved : goal.loop-line-preserved
loop-line-preserved c =
    let none : ScriptLine = record { act = Start; pin = record { port = record { 0 = 0 }; bit = 0 }; value = Zero; number = 0 } in
    taken_next c.args.linked.now.arena.lists c.args.script.now c.loop-line.line-index c.loop-line.pins c.take_start.new.pins (slice_index_or c.args.script.now c.loop-line.line-index none)
    c.requires.formed c.requires.playable (slice_get-get_or c.args.script.now c.loop-line.line-index none c.loop-line-test.true)
    c.take_start.ensures.ports c.take_start.ensures.count c.take_start.ensures.start c.loop-line.invariant

pub returns-clause-starts : goal.returns-clause-starts
returns-clause-starts c = λ place line at start.
    let within = slice_get_within c.args.script.now place line at in
    c.loop-line.invariant.starts place line (omega (arith, within, c.loop-line-test.false)) at start
