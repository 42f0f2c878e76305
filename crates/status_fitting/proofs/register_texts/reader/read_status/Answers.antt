use Rattle.std.proofs.Common.{ℕ, sym, ap, ◌∙◌}
use Rattle.word_cutter.specs.Ahead.{first_number}
use Rattle.status_fitting.specs.Reader.{status_at}
use Rattle.status_fitting.proofs.Exact.{given_at_line, line_at_fault, read_is_spelled, told_is_free}
use Rattle.status_fitting.proofs.register_texts.reader.read_status.Goals as goal

pub returns-in-Ok-clause-spelled : goal.returns-in-Ok-clause-spelled
returns-in-Ok-clause-spelled c =
    read_is_spelled c.args.bytes.now c.in-Ok.plan c.read_lines.new.reader.rows (sym (ap status_at c.new-reader.ensures.rows) ∙ c.in-Ok.ensures.gives)

pub returns-in-Ok-clause-faultless : goal.returns-in-Ok-clause-faultless
returns-in-Ok-clause-faultless c =
    told_is_free c.args.bytes.now c.in-Ok.plan c.read_lines.new.reader.rows (sym (ap status_at c.new-reader.ensures.rows) ∙ c.in-Ok.ensures.gives)

pub returns-in-Err-Line-clause-fault : goal.returns-in-Err-Line-clause-fault
returns-in-Err-Line-clause-fault c =
    line_at_fault c.args.bytes.now c.read_lines.new.reader.rows c.number.result
    (sym (ap status_at c.new-reader.ensures.rows) ∙ given_at_line c.in-Err-Line.field-0 c.read_lines.new.reader.rows (status_at c.new-reader.result.rows)
    c.in-Err-Line.field-0-is c.in-Err-Line.ensures.gives)
    (c.number.ensures ∙ ap (λ (n : ℕ). first_number n c.read_lines.new.reader.rows) (c.in-Err-Line.ensures.end ∙ c.new-reader.ensures.end))
