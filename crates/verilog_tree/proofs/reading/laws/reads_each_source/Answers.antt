use Rattle.verilog_tree.proofs.CompleteItems.{reads_each_source}
use Rattle.verilog_tree.proofs.reading.laws.reads_each_source.Goals as goal

pub returns : goal.returns
returns c = reads_each_source
