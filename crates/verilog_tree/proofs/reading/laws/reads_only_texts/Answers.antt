use Rattle.verilog_tree.proofs.Several.{reads_only_texts}
use Rattle.verilog_tree.proofs.reading.laws.reads_only_texts.Goals as goal

pub returns : goal.returns
returns c = reads_only_texts
