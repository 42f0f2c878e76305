use Rattle.std.proofs.Common.{ℕ, sym, ◌∙◌}
use Rattle.texts.specs.Repeated.{texts}
use Rattle.cell_text.proofs.Borrowed.{word_at}
use Rattle.cell_text.proofs.Bodies.{no_step, step_taken}
use Rattle.cell_text.proofs.cells.steps_of.Goals as goal

pub returns-in-None : goal.returns-in-None
returns-in-None c =
    let words = c.args.words.now in
    let k = c.loop-word.word-index in
    no_step (texts c.args.inputs.now) (texts words) k _ c.loop-word.steps (word_at words k _ c.loop-word-test.true) (sym c.step_of.ensures ∙ c.in-None.is) c.loop-word.invariant

pub loop-word-preserved : goal.loop-word-preserved
loop-word-preserved c =
    let words = c.args.words.now in
    let k = c.loop-word.word-index in
    step_taken (texts c.args.inputs.now) (texts words) k _ c.in-Some.step c.loop-word.steps c.push.new.self (word_at words k _ c.loop-word-test.true) (sym c.step_of.ensures ∙ c.in-Some.is)
    c.in_ok-push-in-Some.ensures.ok c.loop-word.invariant
