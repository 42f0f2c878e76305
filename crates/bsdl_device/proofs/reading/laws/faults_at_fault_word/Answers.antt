use Rattle.bsdl_device.proofs.ReachFile.{faults_at_fault_word}
use Rattle.bsdl_device.proofs.reading.laws.faults_at_fault_word.Goals as goal

pub returns : goal.returns
returns c = faults_at_fault_word
