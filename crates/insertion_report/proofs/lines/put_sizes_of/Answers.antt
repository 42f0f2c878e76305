use Rattle.insertion_report.specs.Reports.{size_words, ident_words}
use Rattle.insertion_report.proofs.Words.{some_then_more}
use Rattle.insertion_report.proofs.lines.put_sizes_of.Goals as goal

pub returns : goal.returns
returns c =
    some_then_more c.put_ident.result c.args.text.now c.put_sizes.new.text c.put_ident.new.text (size_words c.args.device.now) (ident_words c.args.device.now.idcode)
    c.in_ok-put_sizes.ensures c.put_ident.ensures
