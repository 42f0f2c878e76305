use Rattle.std.proofs.Common.{ℕ, ap, ◌∙◌}
use Rattle.insertion_report.specs.Reports.{report_of}
use Rattle.insertion_report.proofs.OwnBits.{all_bits}
use Rattle.insertions.proofs.written_texts.write_texts.Goals as goal

pub returns-clause-report : goal.returns-clause-report
returns-clause-report c =
    c.in_ok-report.ensures ∙ ap (λ (bits : ℕ). report_of bits c.args.fitting.now.fitted.kept c.args.fitting.now.device) (all_bits c.args.linked.now c.requires.open)
