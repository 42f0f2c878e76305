use Rattle.std.proofs.Common.{ℕ, List, [], ◌∷◌, ◌++◌, ◌≡◌, ◌≤◌, length, arith, ap, Bor, length-append}
use Rattle.word_cutter.specs.LinesWords.{words_of}
use Rattle.texts.specs.Repeated.{texts}
use Rattle.cell_text.proofs.Gathered.{is_word, is_none, gathered, gathered_all, gathered_most}
use Rattle.cell_text.proofs.words.gather_words.Goals as goal

pub loop-line-init : goal.loop-line-init
loop-line-init c =
    let none = c.clear.ensures.items in
    let count : length c.clear.new.self.items ≡ 0 = ap length none in
    record { all = ap (λ (l : List (Bor (List ℕ))). texts l ++ words_of c.args.line.now) none; few = omega arith }

pub loop-line-preserved : goal.loop-line-preserved
loop-line-preserved c =
    let test = c.loop-line-test.true in
    let count = c.len.ensures in
    let grown = c.in_ok-push.ensures.items in
    let l : length c.push.new.self.items ≡ length (c.loop-line.words.items ++ c.next_word.result.0 ∷ []) = ap length grown in
    let m = length-append c.loop-line.words.items (c.next_word.result.0 ∷ []) in
    record {
      all = gathered c.loop-line.words.items c.push.new.self.items c.next_word.result.0 c.loop-line.line.now c.next_word.result.1.now (words_of c.args.line.now) grown
          c.next_word.ensures.words (is_word c.next_word.result.0.now c.is_empty.result c.is_empty.ensures c.if-is_empty.false) c.loop-line.invariant.all;
      few = omega arith;
    }

pub returns-after-loop-line : goal.returns-after-loop-line
returns-after-loop-line c =
    let out = c.loop-line-test.false in
    let count = c.len.ensures in
    let few = c.loop-line.invariant.few in
    gathered_most c.loop-line.words.items c.loop-line.line.now (words_of c.args.line.now) (omega arith) c.loop-line.invariant.all

pub returns-then-is_empty : goal.returns-then-is_empty
returns-then-is_empty c =
    gathered_all c.loop-line.words.items c.next_word.result.0.now c.loop-line.line.now c.next_word.result.1.now (words_of c.args.line.now) c.loop-line.invariant.few
    c.next_word.ensures.words (is_none c.next_word.result.0.now c.is_empty.result c.is_empty.ensures c.if-is_empty.true) c.next_word.ensures.none c.loop-line.invariant.all
