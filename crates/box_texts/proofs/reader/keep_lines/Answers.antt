use Rattle.std.proofs.Common.{ℕ, List, sym, subst, ◌∙◌}
use Rattle.word_cutter.specs.LinesWords.{words_of}
use Rattle.word_cutter.specs.Ahead.{first_number, rest_of}
use Rattle.cell_text.specs.Words.{Words}
use Rattle.box_texts.specs.Reader.{Going}
use Rattle.box_texts.proofs.KeptRows.{goes_on}
use Rattle.box_texts.proofs.reader.keep_lines.Goals as goal

pub loop-line-preserved : goal.loop-line-preserved
loop-line-preserved c =
    let left = c.loop-line.reader.rows in
    let number = first_number c.loop-line.reader.end left in
    let form = c.in-Some-2.form in
    subst (λ (rest : List (ℕ × Words)). Going c.args.reader.now.rows rest form c.note.new.self) (sym c.pass.ensures.rows)
    (goes_on c.args.reader.now.rows left (rest_of left) number (words_of c.in-Some.line.now) c.loop-line.before form c.loop-line.kept c.note.new.self c.loop-line.invariant c.in-Some.ensures
    (sym c.in_ok-form.ensures ∙ c.in-Some-2.is) c.in_ok-note-in-Some-2.ensures)
