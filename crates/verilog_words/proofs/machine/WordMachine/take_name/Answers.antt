use Rattle.std.proofs.Common.{List, ◌+◌, arith, ap, sym, subst, ◌∙◌, get_or}
use Rattle.verilog_lexicon.specs.declared.word.Spanned.{Spanned}
use Rattle.verilog_lexicon.specs.Words.{WordText}
use Rattle.word_cutter.specs.Run.{IsStepFault}
use Rattle.verilog_words.specs.Machine.{begin}
use Rattle.verilog_words.proofs.Taken.{ended, end_refused}
use Rattle.verilog_words.proofs.machine.WordMachine.take_name.Goals as goal

pub returns-in-Err : goal.returns-in-Err
returns-in-Err c =
    let piece = c.args.piece.now in
    let n = c.args.count in
    let at = c.args.at in
    end_refused c.args.self.now piece n at c.in-Err.e c.requires.between c.requires.letter c.requires.some (sym c.requires.all) c.requires.within c.requires.short
    (subst (λ (w : List Spanned). IsStepFault c.in-Err.e (at + n) (begin (at + n) w (get_or piece n 0))) (ap (λ (t : WordText). t.list) c.in-Ok.ensures.ok) c.in-Err.ensures)

pub returns : goal.returns
returns c =
    let piece = c.args.piece.now in
    let n = c.args.count in
    let at = c.args.at in (
      omega arith,
      omega (arith, c.requires.within),
      ended c.args.self.now piece n at c.requires.between c.requires.letter c.requires.some (sym c.requires.all) c.requires.within c.requires.short
          ∙ ap (λ (w : List Spanned). begin (at + n) w (get_or piece n 0)) (sym (ap (λ (t : WordText). t.list) c.in-Ok.ensures.ok))
          ∙ c.in_default-begin.ensures,
    )
