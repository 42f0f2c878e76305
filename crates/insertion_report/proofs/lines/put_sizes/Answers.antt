use Rattle.std.proofs.Common.{◌≡◌, ◌++◌, ℕ, codes, length, subst, OnOk}
use Rattle.std.specs.Fmt.{decimal}
use Rattle.output_lines.specs.Lines.{blank_word}
use Rattle.insertion_report.proofs.Words.{three_sizes}
use Rattle.insertion_report.proofs.lines.put_sizes.Goals as goal

pub returns : goal.returns
returns c =
    three_sizes c.put_size-3.result c.args.text.now c.put_size.new.text c.put_size-2.new.text c.put_size-3.new.text
    (codes "INSTRUCTION") (decimal c.args.device.now.length) (codes "BYPASS") (decimal 1) (codes "BOUNDARY") (decimal (length c.args.device.now.cells))
    c.in_ok-put_size.ensures c.in_ok-put_size-2.ensures (subst (λ (n : ℕ). OnOk c.put_size-3.result (c.put_size-3.new.text ≡ c.put_size-2.new.text ++ (blank_word (codes "BOUNDARY") ++ blank_word (decimal n)))) c.len.ensures c.put_size-3.ensures)
