use Rattle.std.proofs.Common.{ℕ, List, Some, sym, ap, subst, ◌∙◌}
use Rattle.word_cutter.specs.LinesWords.{words_of}
use Rattle.word_cutter.specs.Ahead.{first_number, rest_of}
use Rattle.cell_text.specs.Words.{Words}
use Rattle.cell_text.specs.Reader.{Going}
use Rattle.cell_text.proofs.Gathered.{goes_on, bad_line}
use Rattle.cell_text.proofs.reader.keep_lines.Goals as goal

pub returns-then-not-branch-clause-fault : goal.returns-then-not-branch-clause-fault
returns-then-not-branch-clause-fault c =
    let left = c.loop-line.reader.rows in
    let number = first_number c.loop-line.reader.end left in
    bad_line c.args.reader.now.rows left (rest_of left) number (words_of c.in-Some.line.now) c.loop-line.kept c.loop-line.invariant c.in-Some.ensures (sym c.in_ok-is_cell_line.ensures ∙ c.if-not-branch.true)
    ∙ ap (λ (n : ℕ). Some n) (sym c.number.ensures)

pub loop-line-preserved : goal.loop-line-preserved
loop-line-preserved c =
    let left = c.loop-line.reader.rows in
    let number = first_number c.loop-line.reader.end left in
    subst (λ (rest : List (ℕ × Words)). Going c.args.reader.now.rows rest c.note.new.self) (sym c.pass.ensures.rows)
    (goes_on c.args.reader.now.rows left (rest_of left) number (words_of c.in-Some.line.now) c.loop-line.kept c.note.new.self c.loop-line.invariant c.in-Some.ensures
    (sym c.in_ok-is_cell_line.ensures ∙ c.if-not-branch.false) c.in_ok-note.ensures)
