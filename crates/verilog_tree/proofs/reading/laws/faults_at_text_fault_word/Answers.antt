use Rattle.verilog_tree.proofs.Several.{faults_at_text_fault_word}
use Rattle.verilog_tree.proofs.reading.laws.faults_at_text_fault_word.Goals as goal

pub returns : goal.returns
returns c = faults_at_text_fault_word
