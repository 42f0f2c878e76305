use Rattle.verilog_tree.proofs.CompleteItems.{reads_each_source}
use Rattle.verilog_tree.proofs.ReadingWhole.{faults_at_fault_word}
use Rattle.verilog_tree.proofs.reading.laws.faults_at_fault_word.Goals as goal

pub returns : goal.returns
returns c = faults_at_fault_word reads_each_source
