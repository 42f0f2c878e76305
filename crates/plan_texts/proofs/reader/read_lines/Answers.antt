use Rattle.std.proofs.Common.{ℕ, sym, ap, ◌∙◌}
use Rattle.word_cutter.specs.Ahead.{first_number}
use Rattle.plan_texts.specs.Reader.{written_at}
use Rattle.plan_texts.proofs.Exact.{given_at_line, line_at_fault}
use Rattle.plan_texts.proofs.reader.read_lines.Goals as goal

pub returns-in-Err-Line-clause-fault : goal.returns-in-Err-Line-clause-fault
returns-in-Err-Line-clause-fault c =
    line_at_fault c.args.bytes.now c.read_written.new.reader.rows c.number.result
    (sym (ap written_at c.new-reader.ensures.rows) ∙ given_at_line c.in-Err-Line.field-0 c.read_written.new.reader.rows (written_at c.new-reader.result.rows)
    c.in-Err-Line.field-0-is c.in-Err-Line.ensures.gives)
    (c.number.ensures ∙ ap (λ (n : ℕ). first_number n c.read_written.new.reader.rows) (c.in-Err-Line.ensures.end ∙ c.new-reader.ensures.end))
