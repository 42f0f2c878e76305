use Rattle.std.proofs.Common.{◌≡◌, ℕ, List, [], ◌∷◌, ◌++◌, length, ap, ◌∙◌, arith, length-append}
use Rattle.word_cutter.specs.LinesWords.{words_of}
use Rattle.status_fitting.proofs.RegisterTextsWords.{is_word, is_none, gathered, gathered_all, gathered_most}
use Rattle.status_fitting.proofs.register_texts.lines.gather_words.Goals as goal

pub loop-line-preserved : goal.loop-line-preserved
loop-line-preserved c =
    let test = c.loop-line-test.true in
    let count = c.len.ensures in
    let grown : c.push.new.self ≡ c.loop-line.words ++ c.next_word.result.0.now ∷ []
    = c.in_ok-push.ensures.ok ∙ ap (λ (w : List ℕ). c.loop-line.words ++ w ∷ []) c.in_ok-from_bytes.ensures in
    let l : length c.push.new.self ≡ length (c.loop-line.words ++ c.next_word.result.0.now ∷ []) = ap length grown in
    let m = length-append c.loop-line.words (c.next_word.result.0.now ∷ []) in
    record {
      all = gathered c.loop-line.words c.push.new.self (words_of c.loop-line.line.now) (words_of c.next_word.result.1.now) (words_of c.args.line.now) c.next_word.result.0.now grown
          c.next_word.ensures.words (is_word c.next_word.result.0.now c.is_empty.result c.is_empty.ensures c.if-is_empty.false) c.loop-line.invariant.all;
      few = omega arith;
    }

pub returns : goal.returns
returns c =
    let out = c.loop-line-test.false in
    let count = c.len.ensures in
    let few = c.loop-line.invariant.few in
    gathered_most c.loop-line.words (words_of c.loop-line.line.now) (words_of c.args.line.now) (omega arith) c.loop-line.invariant.all

pub returns-then-is_empty : goal.returns-then-is_empty
returns-then-is_empty c =
    gathered_all c.loop-line.words (words_of c.loop-line.line.now) (words_of c.next_word.result.1.now) (words_of c.args.line.now) c.next_word.result.0.now c.loop-line.invariant.few
    c.next_word.ensures.words (is_none c.next_word.result.0.now c.is_empty.result c.is_empty.ensures c.if-is_empty.true) c.next_word.ensures.none c.loop-line.invariant.all
