use Rattle.std.proofs.Common.{◌≡◌, Option, sym, subst}
use Rattle.std.specs.Prelude.{IfOk}
use Rattle.word_cutter.specs.LinesWords.{words_of}
use Rattle.status_fitting.specs.declared.register_texts.plan.StatusRow.{StatusRow}
use Rattle.status_fitting.proofs.RegisterTextsWords.{three_first}
use Rattle.status_fitting.proofs.register_texts.lines.register_in.Goals as goal

pub returns : goal.returns
returns c =
    let first = c.next_word.result in
    let second = c.next_word-2.result in
    let third = c.next_word-3.result in
    subst (λ (o : Option StatusRow). IfOk c.row_in.result (λ found. found ≡ o))
    (sym (three_first (words_of c.args.line.now) (words_of first.1.now) (words_of second.1.now) (words_of third.1.now) first.0.now second.0.now third.0.now
    c.next_word.ensures.words c.next_word.ensures.none c.next_word-2.ensures.words c.next_word-2.ensures.none c.next_word-3.ensures.words c.next_word-3.ensures.none))
    c.row_in.ensures
