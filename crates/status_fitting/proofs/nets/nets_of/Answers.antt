use Rattle.std.proofs.Common.{◌≡◌, ℕ, List, ◌∙◌, ap, sym, Some}
use Rattle.std.specs.Prelude.{slice_get}
use Rattle.std.proofs.lemmas.Option.{slice_get-get_or}
use Rattle.status_fitting.specs.Fitted.{IsNetOf}
use Rattle.status_fitting.proofs.Rows.{all_more, first_unnamed}
use Rattle.status_fitting.proofs.nets.nets_of.Goals as goal

pub returns-in-Err-clause-fault : goal.returns-in-Err-clause-fault
returns-in-Err-clause-fault c =
    let at : slice_get c.args.words.now c.loop-word.word-index ≡ Some c.word-item.result =
    slice_get-get_or c.args.words.now c.loop-word.word-index c.word-item.result c.loop-word-test.true ∙ ap (λ (w : List ℕ). Some w) (sym c.word-item.is) in
    first_unnamed c.args.wires.now c.args.words.now c.loop-word.word-index c.word-item.result c.loop-word.nets c.in-Err.fault at c.loop-word.invariant c.in-Err.ensures.fault

pub loop-word-preserved : goal.loop-word-preserved
loop-word-preserved c =
    let at : slice_get c.args.words.now c.loop-word.word-index ≡ Some c.word-item.result =
    slice_get-get_or c.args.words.now c.loop-word.word-index c.word-item.result c.loop-word-test.true ∙ ap (λ (w : List ℕ). Some w) (sym c.word-item.is) in
    all_more (IsNetOf c.args.wires.now) c.args.words.now c.loop-word.word-index c.word-item.result c.in-Ok.net c.loop-word.nets c.push.new.self at c.loop-word.invariant c.in-Ok.ensures.net
    c.in_ok-push-in-Ok.ensures.ok
