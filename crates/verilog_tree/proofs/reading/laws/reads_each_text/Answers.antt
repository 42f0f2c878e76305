use Rattle.verilog_tree.proofs.Several.{reads_each_text}
use Rattle.verilog_tree.proofs.reading.laws.reads_each_text.Goals as goal

pub returns : goal.returns
returns c = reads_each_text
