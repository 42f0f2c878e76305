use Rattle.std.proofs.Common.{List, ◌+◌, arith, ap, sym, subst, ◌∙◌, get_or}
use Rattle.verilog_lexicon.specs.declared.word.Spanned.{Spanned}
use Rattle.verilog_lexicon.specs.Words.{WordText}
use Rattle.word_cutter.specs.Run.{IsStepFault}
use Rattle.verilog_words.specs.Machine.{begin}
use Rattle.verilog_words.proofs.Taken.{number_words, number_ends, number_end_refused}
use Rattle.verilog_words.proofs.machine.WordMachine.take_number.Goals as goal

pub returns-in-Err : goal.returns-in-Err
returns-in-Err c =
    let piece = c.args.piece.now in
    let n = c.args.count in
    let at = c.args.at in
    let same = number_words c.args.self.now.words.list piece n at c.args.value c.requires.value (omega (arith, c.requires.within)) in
    number_end_refused c.args.self.now piece n at c.in-Err.e c.requires.between c.requires.some c.requires.all c.requires.within c.requires.few c.requires.free
    (subst (λ (w : List Spanned). IsStepFault c.in-Err.e (at + n) (begin (at + n) w (get_or piece n 0))) (ap (λ (t : WordText). t.list) c.in-Ok.ensures.ok ∙ same) c.in-Err.ensures)

pub returns : goal.returns
returns c =
    let piece = c.args.piece.now in
    let n = c.args.count in
    let at = c.args.at in
    let same = number_words c.args.self.now.words.list piece n at c.args.value c.requires.value (omega (arith, c.requires.within)) in (
      omega arith,
      omega (arith, c.requires.within),
      number_ends c.args.self.now piece n at c.requires.between c.requires.some c.requires.all c.requires.within c.requires.few c.requires.free
          ∙ ap (λ (w : List Spanned). begin (at + n) w (get_or piece n 0)) (sym (ap (λ (t : WordText). t.list) c.in-Ok.ensures.ok ∙ same))
          ∙ c.in_default-begin.ensures,
    )
